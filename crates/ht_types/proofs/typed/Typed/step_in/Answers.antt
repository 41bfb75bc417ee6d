use Rattle.std.proofs.Common.{◌≡◌, ℕ, List, Some, slice_get, sym, subst}
use Rattle.ht_word.specs.declared.word.Word.{Word}
use Rattle.ht_types.specs.Flows.{power_in}
use Rattle.ht_types.specs.TypedElements.{TypedValue}
use Rattle.ht_types.specs.WordSteps.{HasStep, AreSteps}
use Rattle.ht_types.specs.declared.direction.Direction.{Direction}
use Rattle.ht_types.specs.declared.direction.Direction.TheVariants.{Ahead, Behind}
use Rattle.ht_types.specs.declared.step.Step.{Step}
use Rattle.ht_types.proofs.typed.Typed.step_in.Goals as goal

-- what stands at a place of the steps in the direction is the step from the word there
step_at : (direction way : Direction) (t now : TypedValue) (steps : List Step) (place : ℕ) (step : Step) → direction ≡ way → t ≡ now → AreSteps t.element.shape t.element.rows t.quasi.basis.words (power_in way 1) steps → slice_get steps place ≡ Some step
    → (x : Word) → slice_get now.quasi.basis.words place ≡ Some x → HasStep now.element.shape now.element.rows now.quasi.basis.words (power_in direction 1) x step
step_at direction way t now steps place step same is are at x here =
    let kept = subst (λ (v : TypedValue). AreSteps v.element.shape v.element.rows v.quasi.basis.words (power_in way 1) steps) is are in
    subst (λ d. HasStep now.element.shape now.element.rows now.quasi.basis.words (power_in d 1) x step) (sym same) (kept.each place x step here at)

pub returns-in-Ahead : goal.returns-in-Ahead
returns-in-Ahead c = step_at c.args.direction Ahead _ c.args.self.now c.self.inside.ahead c.args.place c.at.result.now c.in-Ahead.is c.self.view_is (c.self.invariant.1).are_ahead c.at.ensures

pub returns-in-Behind : goal.returns-in-Behind
returns-in-Behind c = step_at c.args.direction Behind _ c.args.self.now c.self.inside.behind c.args.place c.at-in-Behind.result.now c.in-Behind.is c.self.view_is (c.self.invariant.1).are_behind c.at-in-Behind.ensures
