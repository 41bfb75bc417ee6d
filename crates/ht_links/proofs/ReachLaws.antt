-- What reaches ends, in either direction. t is the element with its quasinormal basis.
use Rattle.std.proofs.Common.{◌≡◌, ℕ, ◌++◌, List, Some, slice_get, refl, sym, ap, ◌∙◌, subst, Contains, ℤ}
use Rattle.ht_word.specs.Words.{◌·◌, IsLetters, IsWordOf}
use Rattle.ht_word.specs.declared.shape.Shape.{Shape}
use Rattle.ht_word.specs.declared.word.Word.{Word}
use Rattle.ht_word.proofs.WordLaws.{after-append, under_after, under_trans}
use Rattle.ht_pair.specs.SemiNormal.{CarriesUnder}
use Rattle.ht_pair.specs.Steps.{Carries}
use Rattle.ht_pair.specs.declared.row.Row.{Row}
use Rattle.ht_pair.proofs.CarriesLaws.{carries_extends, carries_itself}
use Rattle.ht_quasi.proofs.StepLaws.{listed_at}
use Rattle.ht_types.specs.Flows.{power_in, IsEndIn, IsExit, IsUnderInfinite}
use Rattle.ht_types.specs.Links.{ReachesEnd}
use Rattle.ht_types.specs.TypedElements.{TypedValue, IsTyped}
use Rattle.ht_types.specs.WordSteps.{HasStep, LeadsTo}
use Rattle.ht_types.specs.declared.direction.Direction.{Direction}
use Rattle.ht_types.specs.declared.direction.Direction.TheVariants.{Ahead, Behind}
use Rattle.ht_types.specs.declared.exit.Exit.{Exit}
use Rattle.ht_types.specs.declared.kind.Reach.{Reach}
use Rattle.ht_types.specs.declared.step.Step.TheVariants.{Splits}
use Rattle.ht_types.proofs.AttractorLaws.{attractor_ahead, attractor_moved}
use Rattle.ht_types.proofs.RepellerLaws.{repeller_behind, repeller_moved}
use Rattle.ht_types.proofs.TurnLaws.{HasSemiNormal}
use Rattle.ht_types.proofs.TypedLaws.{typed_base}
use Rattle.ht_links.specs.Listing.{IsStepFrom}

-- the reach of an exit
abbrev pub exit_reach : Exit → Reach
exit_reach exit = record { steps = exit.steps; to = exit.to; rest = exit.rest }

pub exit_reaches : (t : TypedValue) (direction : Direction) (u : Word) (exit : Exit) → IsExit t.element.shape t.element.rows t.quasi.basis.words direction u exit → ReachesEnd t direction (u · exit.letters) (exit_reach exit)
exit_reaches t direction u exit e = record { above = e.above; here = e.walked.here; ends = e.ends; carries = e.walked.carries; few = e.few }

-- letters behind a word stay behind
pub reaches_behind : (t : TypedValue) (direction : Direction) (u : Word) (reach : Reach) (z : List ℕ) → IsLetters t.element.shape z → ReachesEnd t direction u reach → ReachesEnd t direction (u · z) (record reach { rest = reach.rest ++ z })
reaches_behind t direction u reach z hz r =
    let p = t.element.rows in
    let k = power_in direction reach.steps in
    record {
      above = r.above;
      here = r.here;
      ends = r.ends;
      carries = subst (Carries t.element.shape p k (u · z)) (after-append r.above reach.rest z) (carries_extends t.element.shape p k u (r.above · reach.rest) z hz r.carries);
      few = r.few;
    }

pub infinite_behind : {shape : Shape} {p : List Row} {X : List Word} (u : Word) (z : List ℕ) → IsUnderInfinite shape p X u → IsUnderInfinite shape p X (u · z)
infinite_behind u z i = record { above = i.above; infinite = i.infinite; under = under_trans (under_after u z) i.under }

-- ---- ends

pub no_steps : (direction : Direction) (shape : Shape) (p : List Row) (u : Word) → IsWordOf shape u → Carries shape p (power_in direction 0) u u
no_steps Ahead shape p u h = carries_itself shape p u h
no_steps Behind shape p u h = carries_itself shape p u h

-- each step in its direction carries an end under the basis
pub end_stays : {shape : Shape} {p : List Row} {X : List Word} → HasSemiNormal shape p X → (direction : Direction) (k : ℕ) (x : Word) → Contains X x → IsEndIn direction shape p x → CarriesUnder shape p (power_in direction k) x X
end_stays h Ahead k x c a = attractor_ahead h (record { listed = c; attractor = a.2 }) k
end_stays h Behind k x c r = repeller_behind h (record { listed = c; repeller = r.2 }) k

-- under ends alone
pub end_moves : {shape : Shape} {p : List Row} {X : List Word} → HasSemiNormal shape p X → (direction : Direction) (i : ℤ) (x y : Word) (c : List ℕ) → Contains X x → IsEndIn direction shape p x → Contains X y → Carries shape p i x (y · c) → IsEndIn direction shape p y
end_moves h Ahead i x y c listed a there carries = attractor_moved h (record { listed = listed; attractor = a.2 }) i y c there carries
end_moves h Behind i x y c listed r there carries = repeller_moved h (record { listed = listed; repeller = r.2 }) i y c there carries

-- ---- one step from an end

module _ (t : TypedValue) (typed : IsTyped t.element t.quasi t.kinds) (direction : Direction) (place : ℕ) (x : Word) (here : slice_get t.quasi.basis.words place ≡ Some x) (ends : IsEndIn direction t.element.shape t.element.rows x) where
  -- leads to a word
  pub end_leads : ¬ HasStep t.element.shape t.element.rows t.quasi.basis.words (power_in direction 1) x Splits
  end_leads never = let s = end_stays (typed_base t typed) direction 1 x (listed_at t.quasi.basis.words place x here) ends in never s.to s.carries

  -- with letters behind the end, these stay behind the word
  pub end_step : (to : ℕ) (rest letters all : List ℕ) → LeadsTo t.element.shape t.element.rows t.quasi.basis.words (power_in direction 1) x to rest → IsLetters t.element.shape letters → all ≡ rest ++ letters
      → IsStepFrom t direction x letters (record { steps = 1; to = to; rest = all })
  end_step to rest letters all l hz e =
      let shape = t.element.shape in
      let p = t.element.rows in
      let k = power_in direction 1 in
      record {
        above = l.above;
        here = l.here;
        carries = subst (Carries shape p k (x · letters)) (after-append l.above rest letters ∙ ap (λ z. l.above · z) (sym e)) (carries_extends shape p k x (l.above · rest) letters hz l.carries);
        one = refl;
      }
