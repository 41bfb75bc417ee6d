use Rattle.std.proofs.lemmas.Result.{on_err_weaker}
use Rattle.std.proofs.Common.{◌++◌}
use Rattle.std.specs.Prelude.{codes, decimal}
use Rattle.ht_text.proofs.Writing.{adds_behind, adds_within, at_refusal}
use Rattle.ht_answer.specs.Answers.{number_line}
use Rattle.ht_answer.proofs.text.write_numbers.Goals as goal

pub returns-in_err-write_number-clause-err : goal.returns-in_err-write_number-clause-err
returns-in_err-write_number-clause-err c =
    at_refusal c.from_residual.result
    (adds_within c.args.out.now.items c.write_number.new.out.items (c.args.text.now ++ decimal c.args.first) (number_line (codes " ") c.args.second) c.in_err-write_number.ensures.err)

pub returns-clause-err : goal.returns-clause-err
returns-clause-err c =
    on_err_weaker c.write_line.result
    (λ h. adds_behind c.args.out.now.items c.write_number.new.out.items c.write_line.new.out.items (c.args.text.now ++ decimal c.args.first) (number_line (codes " ") c.args.second) c.in_ok-write_number.ensures.ok h)
    c.write_line.ensures.err
