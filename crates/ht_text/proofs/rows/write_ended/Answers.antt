use Rattle.std.proofs.Common.{[], ◌∷◌}
use Rattle.ht_text.specs.Texts.{row_text}
use Rattle.ht_text.proofs.Writing.{adds_within, at_refusal}
use Rattle.ht_text.proofs.rows.write_ended.Goals as goal

pub returns-in_err-write_row-clause-err : goal.returns-in_err-write_row-clause-err
returns-in_err-write_row-clause-err c =
    at_refusal c.from_residual.result
    (adds_within c.args.out.now.items c.write_row.new.out.items (row_text c.args.row.now) (59 ∷ []) c.in_err-write_row.ensures.err)
