use Rattle.std.proofs.Common.{◌≡◌, ◌∙◌, rules, refl, ap}
use Rattle.ht_script.specs.declared.line.Line.TheVariants as line
use Rattle.ht_calc.specs.Names.{rows_by_name}
use Rattle.ht_calc.proofs.NameLaws.{rows_of, bound_rows, bound_of_shape}
use Rattle.ht_calc.proofs.TwoNames.{no_group, first_none, second_none}
use Rattle.ht_calc.proofs.PowerSteps.{verdict_text, power_told, power_first_over, power_second_over, power_large, power_wide}
use Rattle.ht_calc.proofs.session.Session.power.Goals as goal

pub returns-then-is_none-clause-step : goal.returns-then-is_none-clause-step
returns-then-is_none-clause-step c =
    no_group (record { shape = c.self.inside.shape; budget = c.self.inside.budget; names = rows_by_name c.self.inside.names }) c.args.self.now (line.Power c.args.first c.args.second) c.args.first c.args.second refl c.self.view_is tt (search rules)

pub returns-in_default-clause-step : goal.returns-in_default-clause-step
returns-in_default-clause-step c =
    first_none (record { shape = c.self.inside.shape; budget = c.self.inside.budget; names = rows_by_name c.self.inside.names }) c.args.self.now (line.Power c.args.first c.args.second) c.args.first c.args.second refl c.self.view_is (search rules)
    (bound_rows c.self.inside.names c.args.first ∙ ap rows_of c.in_default.ensures)

pub returns-in_default-get-clause-step : goal.returns-in_default-get-clause-step
returns-in_default-get-clause-step c =
    second_none (record { shape = c.self.inside.shape; budget = c.self.inside.budget; names = rows_by_name c.self.inside.names }) c.args.self.now (line.Power c.args.first c.args.second) c.args.first c.args.second refl c.self.view_is c.in-Some.element.now.rows
    (bound_rows c.self.inside.names c.args.first ∙ ap rows_of c.in-Some.ensures) (search rules) (bound_rows c.self.inside.names c.args.second ∙ ap rows_of c.in_default-get.ensures)

pub power_conjugate-requires : goal.power_conjugate-requires
power_conjugate-requires c =
    let first = (bound_of_shape c.self.inside.shape c.self.inside.names c.args.first c.in-Some.element.now c.self.invariant.of_shape c.in-Some.ensures).shape_is in
    let second = (bound_of_shape c.self.inside.shape c.self.inside.names c.args.second c.in-Some-get.other.now c.self.invariant.of_shape c.in-Some-get.ensures).shape_is in
    let same : c.in-Some-get.other.now.shape ≡ c.in-Some.element.now.shape = cc in
    record { shape = same }

pub returns-in-Ok-clause-step : goal.returns-in-Ok-clause-step
returns-in-Ok-clause-step c =
    rw c.powers_answer.ensures (
    power_told c.self.inside.shape c.self.inside.budget c.self.inside.names c.args.self.now c.args.first c.args.second c.self.view_is c.in-Some.element.now c.in-Some-get.other.now c.self.invariant.of_shape c.in-Some.ensures c.in-Some-get.ensures
    c.in-Ok.verdict c.in-Ok.ensures.rule c.in-Ok.ensures.verdict
    )

pub returns-in-Ok-clause-text : goal.returns-in-Ok-clause-text
returns-in-Ok-clause-text c =
    rw c.powers_answer.ensures (
    verdict_text c.in-Some.element.now.shape c.in-Some.element.now.rows c.in-Some-get.other.now.rows c.in-Ok.verdict c.in-Ok.ensures.verdict
    )

pub returns-in-Err-Budget-First-clause-step : goal.returns-in-Err-Budget-First-clause-step
returns-in-Err-Budget-First-clause-step c =
    power_first_over c.self.inside.shape c.self.inside.budget c.self.inside.names c.args.self.now c.args.first c.args.second c.self.view_is c.in-Some.element.now c.in-Some-get.other.now c.self.invariant.of_shape c.in-Some.ensures c.in-Some-get.ensures
    _ (search rules) c.in-Err-Budget-First.ensures.rule

pub returns-in-Err-Budget-Second-clause-step : goal.returns-in-Err-Budget-Second-clause-step
returns-in-Err-Budget-Second-clause-step c =
    power_second_over c.self.inside.shape c.self.inside.budget c.self.inside.names c.args.self.now c.args.first c.args.second c.self.view_is c.in-Some.element.now c.in-Some-get.other.now c.self.invariant.of_shape c.in-Some.ensures c.in-Some-get.ensures
    _ (search rules) c.in-Err-Budget-Second.ensures.rule

pub returns-in-Err-Large-clause-step : goal.returns-in-Err-Large-clause-step
returns-in-Err-Large-clause-step c =
    power_large c.self.inside.shape c.self.inside.budget c.self.inside.names c.args.self.now c.args.first c.args.second c.self.view_is c.in-Some.element.now c.in-Some-get.other.now c.self.invariant.of_shape c.in-Some.ensures c.in-Some-get.ensures
    _ _ _ (search rules) c.in-Err-Large.ensures.rule

pub returns-in-Err-Wide-clause-step : goal.returns-in-Err-Wide-clause-step
returns-in-Err-Wide-clause-step c =
    power_wide c.self.inside.shape c.self.inside.budget c.self.inside.names c.args.self.now c.args.first c.args.second c.self.view_is c.in-Some.element.now c.in-Some-get.other.now c.self.invariant.of_shape c.in-Some.ensures c.in-Some-get.ensures
    _ (search rules) c.in-Err-Wide.ensures.rule
