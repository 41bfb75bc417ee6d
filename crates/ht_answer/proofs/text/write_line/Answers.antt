use Rattle.std.proofs.Common.{[], ◌∷◌, ◌++◌}
use Rattle.std.specs.Prelude.{decimal}
use Rattle.ht_text.proofs.Writing.{adds_within, at_refusal}
use Rattle.ht_answer.proofs.text.write_line.Goals as goal

pub returns-in_err-write_number-clause-err : goal.returns-in_err-write_number-clause-err
returns-in_err-write_number-clause-err c =
    at_refusal c.from_residual.result (adds_within c.args.out.now.items c.write_number.new.out.items (c.args.text.now ++ decimal c.args.n) (10 ∷ []) c.in_err-write_number.ensures.err)
