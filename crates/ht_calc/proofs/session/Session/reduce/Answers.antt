use Rattle.std.proofs.Common.{rules, List, subst, sym}
use Rattle.ht_pair.specs.declared.row.Row.{Row}
use Rattle.ht_pair.specs.Pairs.{IsPair}
use Rattle.ht_pair.specs.Actions.{IsCanonicalFor}
use Rattle.ht_script.specs.declared.line.Line.TheVariants as line
use Rattle.ht_answer.specs.declared.answer.Answer.TheVariants.{Pair, Refused}
use Rattle.ht_answer.specs.declared.answer.Refusal.TheVariants as refusal
use Rattle.ht_calc.specs.States.{State}
use Rattle.ht_calc.specs.Steps.{Does, before_group, reduced, reduce_refused}
use Rattle.ht_text.proofs.CanonicalTexts.{pair_has_texts}
use Rattle.ht_calc.proofs.LineSizes.{never_large}
use Rattle.ht_calc.proofs.session.Session.reduce.Goals as goal

pub returns-in_default-clause-step : goal.returns-in_default-clause-step
returns-in_default-clause-step c =
    subst (λ (s : State). Does s (line.Reduce c.args.rows) (Refused refusal.Group) s) c.self.view_is (before_group (line.Reduce c.args.rows) tt (search rules))

pub returns-in_ok-rows-in-Ok-clause-step : goal.returns-in_ok-rows-in-Ok-clause-step
returns-in_ok-rows-in-Ok-clause-step c =
    let canonical = subst (λ (q : List Row). IsCanonicalFor c.in-Some.shape q c.args.rows) (sym c.in_ok-rows-in-Ok.ensures.rows) c.in-Ok.ensures.canonical.1 in
    subst (λ (s : State). Does s (line.Reduce c.args.rows) (Pair c.in_ok-rows-in-Ok.field-0) s) c.self.view_is
    (reduced c.args.rows c.in_ok-rows-in-Ok.field-0 c.in-Some.shape (search rules) c.in-Ok.ensures.pair canonical)

pub returns-in_ok-rows-in-Ok-clause-text : goal.returns-in_ok-rows-in-Ok-clause-text
returns-in_ok-rows-in-Ok-clause-text c =
    pair_has_texts c.in-Some.shape c.in_ok-rows-in-Ok.field-0
    (subst (λ (q : List Row). IsPair c.in-Some.shape q) (sym c.in_ok-rows-in-Ok.ensures.rows) c.in-Ok.ensures.canonical.1.pair)

pub returns-in_ok-refusal_of-in-Err-clause-step : goal.returns-in_ok-refusal_of-in-Err-clause-step
returns-in_ok-refusal_of-in-Err-clause-step c =
    subst (λ (s : State). Does s (line.Reduce c.args.rows) (Refused c.in_ok-refusal_of-in-Err.field-0) s) c.self.view_is
    (reduce_refused c.args.rows c.in-Some.shape c.in_ok-refusal_of-in-Err.field-0 (search rules) (c.in_ok-refusal_of-in-Err.ensures c.in-Some.shape c.args.rows c.in-Err.ensures.fault))

pub refusal_of-requires : goal.refusal_of-requires
refusal_of-requires c = record { not_large = never_large c.in-Some.shape c.args.rows c.in-Err.fault c.requires.short c.in-Err.ensures.fault }
