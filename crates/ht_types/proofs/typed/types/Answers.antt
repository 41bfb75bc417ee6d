use Rattle.std.proofs.Common.{sym, subst}
use Rattle.ht_pair.specs.Elements.{ElementValue}
use Rattle.ht_types.specs.Flows.{power_in}
use Rattle.ht_types.specs.TypedElements.{IsTyped}
use Rattle.ht_types.specs.WordSteps.{AreSteps, HasSteps}
use Rattle.ht_types.specs.declared.direction.Direction.TheVariants.{Behind}
use Rattle.ht_types.proofs.SeenLaws.{least_for}
use Rattle.ht_types.proofs.StepLaws.{mover_steps}
use Rattle.ht_types.proofs.typed.types.Goals as goal
use Rattle.ht_types.proofs.typed.types.Goals.{In_ok-behind}

-- the quasinormal basis of the element is that of its inverse
pub steps-requires-2-clause-basis : goal.steps-requires-2-clause-basis
steps-requires-2-clause-basis c = least_for Behind c.args.a.now c.in_ok-back.back c.args.quasi.basis.words c.keeps_limits.ensures.canonical.pair c.in_ok-back.ensures c.requires.quasi.least

-- the steps of the inverse are those of the element behind
are_behind : (c : In_ok-behind) → AreSteps c.args.a.now.shape c.args.a.now.rows c.args.quasi.basis.words (power_in Behind 1) c.in_ok-behind.behind
are_behind c = mover_steps Behind c.args.a.now c.in_ok-back.back c.keeps_limits.ensures.canonical.pair c.in_ok-back.ensures c.args.quasi.basis.words c.in_ok-behind.behind c.in_ok-behind.ensures

pub kinds_of-requires-clause-behind : goal.kinds_of-requires-clause-behind
kinds_of-requires-clause-behind c =
    let at = (goal.at.kinds_of-requires-clause-behind c).In_ok-behind in
    subst (AreSteps c.args.a.now.shape c.args.a.now.rows c.args.quasi.basis.words (power_in Behind 1)) (sym c.as_slice-2.ensures) (are_behind at)

pub invariant_of-result : goal.invariant_of-result
invariant_of-result c =
    let at = (goal.at.invariant_of-result c).In_ok-behind in
    let X = c.args.quasi.basis.words in (
      subst (λ (e : ElementValue). IsTyped e c.args.quasi c.in_ok-kinds.kinds) (sym c.in_ok-element.ensures) (record {
        canonical = c.keeps_limits.ensures;
        shape_is = c.requires.shape;
        quasinormal = c.requires.quasi;
        within = c.requires.within;
        kinds_are = c.in_ok-kinds.ensures.kinds;
        short = c.in_ok-kinds.ensures.short;
      }),
      subst (λ (e : ElementValue). HasSteps e X c.in_ok-back.back c.in_ok-ahead.ahead c.in_ok-behind.behind) (sym c.in_ok-element.ensures) (record {
        inverse = c.in_ok-back.ensures;
        are_ahead = c.in_ok-ahead.ensures;
        are_behind = are_behind at;
      }),
    )
