use Rattle.std.proofs.lemmas.Result.{on_err_weaker}
use Rattle.std.proofs.Common.{◌++◌, ap, ◌∙◌}
use Rattle.std.specs.Prelude.{codes}
use Rattle.ht_text.proofs.Writing.{appended, adds_behind, adds_first, adds_within, at_refusal}
use Rattle.ht_answer.specs.Answers.{number_line}
use Rattle.ht_answer.proofs.text.print_bound.Goals as goal

pub returns-in_err-extend_from_slice-2-clause-err : goal.returns-in_err-extend_from_slice-2-clause-err
returns-in_err-extend_from_slice-2-clause-err c =
    at_refusal c.from_residual-in_err-extend_from_slice-2.result
    (adds_within c.args.out.now.items c.extend_from_slice-2.new.self.items (c.args.command.now ++ c.args.name.now) (number_line (codes " ") c.args.rows)
    (adds_first c.args.out.now.items c.extend_from_slice-2.new.self.items c.args.command.now c.args.name.now
    (c.in_err-extend_from_slice-2.ensures.items ∙ c.in_ok-extend_from_slice.ensures.items)))

pub returns-clause-err : goal.returns-clause-err
returns-clause-err c =
    let named = c.in_ok-extend_from_slice-2.ensures.items ∙ ap (λ t. c.extend_from_slice.new.self.items ++ t) c.as_slice.ensures in
    let wrote = appended c.args.out.now.items c.extend_from_slice.new.self.items c.extend_from_slice-2.new.self.items c.args.command.now c.args.name.now c.in_ok-extend_from_slice.ensures.items named in
    on_err_weaker c.write_line.result
    (λ h. adds_behind c.args.out.now.items c.extend_from_slice-2.new.self.items c.write_line.new.out.items (c.args.command.now ++ c.args.name.now) (number_line (codes " ") c.args.rows) wrote h)
    c.write_line.ensures.err
