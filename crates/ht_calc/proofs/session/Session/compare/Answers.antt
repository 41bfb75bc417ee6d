use Rattle.std.proofs.Common.{rules, ◌∙◌, refl, subst, sym, ap}
use Rattle.ht_script.specs.declared.line.Line.TheVariants as line
use Rattle.ht_answer.specs.declared.answer.Answer.TheVariants.{Equal}
use Rattle.ht_calc.specs.Names.{rows_by_name}
use Rattle.ht_calc.specs.States.{State}
use Rattle.ht_calc.specs.Steps.{Does, compared}
use Rattle.ht_calc.proofs.NameLaws.{rows_of, bound_rows, bound_of_shape}
use Rattle.ht_calc.proofs.TwoNames.{no_group, first_none, second_none}
use Rattle.ht_calc.proofs.session.Session.compare.Goals as goal

pub returns-then-is_none-clause-step : goal.returns-then-is_none-clause-step
returns-then-is_none-clause-step c =
    no_group (record { shape = c.self.inside.shape; budget = c.self.inside.budget; names = rows_by_name c.self.inside.names }) c.args.self.now (line.Equal c.args.first c.args.second) c.args.first c.args.second refl c.self.view_is tt (search rules)

pub returns-in_default-clause-step : goal.returns-in_default-clause-step
returns-in_default-clause-step c =
    first_none (record { shape = c.self.inside.shape; budget = c.self.inside.budget; names = rows_by_name c.self.inside.names }) c.args.self.now (line.Equal c.args.first c.args.second) c.args.first c.args.second refl c.self.view_is (search rules)
    (bound_rows c.self.inside.names c.args.first ∙ ap rows_of c.in_default.ensures)

pub returns-in_default-get-clause-step : goal.returns-in_default-get-clause-step
returns-in_default-get-clause-step c =
    second_none (record { shape = c.self.inside.shape; budget = c.self.inside.budget; names = rows_by_name c.self.inside.names }) c.args.self.now (line.Equal c.args.first c.args.second) c.args.first c.args.second refl c.self.view_is c.in-Some.element.now.rows
    (bound_rows c.self.inside.names c.args.first ∙ ap rows_of c.in-Some.ensures) (search rules) (bound_rows c.self.inside.names c.args.second ∙ ap rows_of c.in_default-get.ensures)

pub same-requires : goal.same-requires
same-requires c =
    let first = (bound_of_shape c.self.inside.shape c.self.inside.names c.args.first c.in-Some.element.now c.self.invariant.of_shape c.in-Some.ensures).shape_is in
    let second = (bound_of_shape c.self.inside.shape c.self.inside.names c.args.second c.in-Some-get.other.now c.self.invariant.of_shape c.in-Some-get.ensures).shape_is in
    cc

pub returns-clause-step : goal.returns-clause-step
returns-clause-step c =
    subst (λ (s : State). Does s (line.Equal c.args.first c.args.second) (Equal c.same.result) s) c.self.view_is
    (compared c.args.first c.args.second c.in-Some.element.now.rows c.in-Some-get.other.now.rows c.in-Some.element.now.shape c.same.result
    (sym (bound_of_shape c.self.inside.shape c.self.inside.names c.args.first c.in-Some.element.now c.self.invariant.of_shape c.in-Some.ensures).shape_is)
    (bound_rows c.self.inside.names c.args.first ∙ ap rows_of c.in-Some.ensures) (bound_rows c.self.inside.names c.args.second ∙ ap rows_of c.in-Some-get.ensures) c.same.ensures.alike)
