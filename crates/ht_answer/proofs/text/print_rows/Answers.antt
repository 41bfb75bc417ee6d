use Rattle.std.proofs.Common.{[], ◌∷◌, ◌++◌}
use Rattle.ht_text.specs.Texts.{rows_text}
use Rattle.ht_text.proofs.Writing.{adds_behind, adds_within, at_refusal}
use Rattle.ht_answer.proofs.text.print_rows.Goals as goal

pub returns-in_err-write_rows-clause-err : goal.returns-in_err-write_rows-clause-err
returns-in_err-write_rows-clause-err c =
    at_refusal c.from_residual-in_err-write_rows.result
    (adds_within c.args.out.now.items c.write_rows.new.out.items (c.args.text.now ++ rows_text c.args.rows.now) (10 ∷ [])
    (adds_behind c.args.out.now.items c.extend_from_slice.new.self.items c.write_rows.new.out.items c.args.text.now (rows_text c.args.rows.now) c.in_ok-extend_from_slice.ensures.items c.in_err-write_rows.ensures.err))
