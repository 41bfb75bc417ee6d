use Rattle.std.proofs.Common.{◌∙◌, rules, sym, ap, subst}
use Rattle.ht_calc.specs.Names.{rows_by_name}
use Rattle.ht_calc.specs.LineNames.{asks}
use Rattle.ht_calc.specs.States.{State}
use Rattle.ht_calc.specs.Steps.{Does, questioned}
use Rattle.ht_calc.proofs.NameLaws.{rows_of, bound_rows, bound_of_shape}
use Rattle.ht_calc.proofs.QuestionLaws.{asked_early, asked_none, asked_over}
use Rattle.ht_calc.proofs.session.Session.ask.Goals as goal

pub returns-then-is_none-clause-step : goal.returns-then-is_none-clause-step
returns-then-is_none-clause-step c =
    asked_early (record { shape = c.self.inside.shape; budget = c.self.inside.budget; names = rows_by_name c.self.inside.names }) c.args.self.now c.args.question c.args.name c.self.view_is (search rules)

pub returns-in_default-clause-step : goal.returns-in_default-clause-step
returns-in_default-clause-step c =
    asked_none (record { shape = c.self.inside.shape; budget = c.self.inside.budget; names = rows_by_name c.self.inside.names }) c.args.self.now c.args.question c.args.name c.self.view_is (search rules)
    (bound_rows c.self.inside.names c.args.name ∙ ap rows_of c.in_default.ensures)

pub returns-in-Ok-clause-step : goal.returns-in-Ok-clause-step
returns-in-Ok-clause-step c =
    let element = c.in-Some.element.now in
    let shape_is = (bound_of_shape c.self.inside.shape c.self.inside.names c.args.name element c.self.invariant.of_shape c.in-Some.ensures).shape_is in
    subst (λ (s : State). Does s (asks c.args.question c.args.name) c.in-Ok.answer s) c.self.view_is
    (questioned c.args.question c.args.name element.rows element.shape c.in-Ok.answer (sym shape_is) (bound_rows c.self.inside.names c.args.name ∙ ap rows_of c.in-Some.ensures) c.in-Ok.ensures.answer)

pub returns-in-Err-Budget-clause-step : goal.returns-in-Err-Budget-clause-step
returns-in-Err-Budget-clause-step c =
    let element = c.in-Some.element.now in
    let shape_is = (bound_of_shape c.self.inside.shape c.self.inside.names c.args.name element c.self.invariant.of_shape c.in-Some.ensures).shape_is in
    let over = c.in-Err-Budget.ensures.over (search rules) in
    asked_over (record { shape = c.self.inside.shape; budget = c.self.inside.budget; names = rows_by_name c.self.inside.names }) c.args.self.now c.args.question c.args.name element.rows element.shape c.self.view_is (sym shape_is)
    (bound_rows c.self.inside.names c.args.name ∙ ap rows_of c.in-Some.ensures) over.0 over.1
