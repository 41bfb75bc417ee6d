use Rattle.std.proofs.Common.{rules, inl, inr, Some, subst}
use Rattle.ht_script.specs.declared.line.Line.TheVariants as line
use Rattle.ht_answer.specs.declared.answer.Answer.TheVariants.{Group, Refused}
use Rattle.ht_answer.specs.declared.answer.Refusal.TheVariants as refusal
use Rattle.ht_calc.specs.States.{State}
use Rattle.ht_calc.specs.Names.{rows_by_name}
use Rattle.ht_calc.specs.Steps.{Does, group_is_set, group_refused}
use Rattle.ht_calc.proofs.session.Session.group.Goals as goal

pub returns-then-is_some-clause-step : goal.returns-then-is_some-clause-step
returns-then-is_some-clause-step c =
    subst (λ (s : State). Does s (line.Group c.args.n c.args.r) (Refused refusal.Group) s) c.self.view_is (group_refused c.args.n c.args.r (inl (search rules)))

pub returns-in-Err-clause-step : goal.returns-in-Err-clause-step
returns-in-Err-clause-step c =
    group_refused c.args.n c.args.r (inr (λ within. let ok = c.in-Err.ensures.exact.1 within in cc))

pub returns-in-Ok-clause-step : goal.returns-in-Ok-clause-step
returns-in-Ok-clause-step c =
    let value = c.in-Ok.ensures.value in
    subst (λ (s : State). Does s (line.Group c.args.n c.args.r) (Group c.args.n c.args.r) (record { shape = Some c.in-Ok.shape; budget = c.self.inside.budget; names = rows_by_name c.self.inside.names })) c.self.view_is
    (group_is_set c.args.n c.args.r c.in-Ok.shape (search rules) value.0 value.1)
