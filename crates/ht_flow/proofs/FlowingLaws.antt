-- Walks ahead that flow under an attractor, and those that stop before.
use Rattle.std.proofs.Common.{◌≡◌, ℕ, ◌+◌, ◌<◌, ◌⊎◌, inl, inr, List, length, refl, subst, arith, pos, ◌^◌}
use Rattle.std.proofs.lemmas.Bool.{cases_lt}
use Rattle.ht_word.specs.Words.{◌·◌, IsLetters}
use Rattle.ht_word.specs.declared.shape.Shape.{Shape}
use Rattle.ht_word.specs.declared.word.Word.{Word}
use Rattle.ht_word.proofs.WordLaws.{under_after, under_trans}
use Rattle.ht_pair.specs.Kinds.{IsAttractorWord}
use Rattle.ht_pair.specs.Reaches.{CarriesUnderSuch}
use Rattle.ht_pair.specs.SemiNormal.{CarriesUnder}
use Rattle.ht_pair.specs.declared.row.Row.{Row}
use Rattle.ht_pair.proofs.BasisLaws.{some_at}
use Rattle.ht_pair.proofs.CarriesLaws.{carries_extends}
use Rattle.ht_quasi.proofs.StepLaws.{listed_at}
use Rattle.ht_types.specs.Flows.{IsWalk, IsWholeWalk, IsUnderInfinite}
use Rattle.ht_types.specs.TypedElements.{TypedValue, IsTyped}
use Rattle.ht_types.specs.declared.direction.Direction.TheVariants.{Ahead}
use Rattle.ht_types.specs.declared.walk.Walk.{Walk}
use Rattle.ht_types.proofs.OnwardLaws.{such_above, sooner_under, early_under, walk_bound}
use Rattle.ht_types.proofs.StopLaws.{few_steps, few_words}
use Rattle.ht_types.proofs.TurnLaws.{HasSemiNormal}
use Rattle.ht_types.proofs.TypedLaws.{typed_base}
use Rattle.ht_flow.specs.Flowing.{FlowsUnder, IsStuck}

-- a walk takes few steps
pub walk_few : (t : TypedValue) → IsTyped t.element t.quasi t.kinds → (u x : Word) (walk : Walk) → length u.letters < 2 ^ 64 → IsUnderInfinite t.element.shape t.element.rows t.quasi.basis.words u → IsWalk t.element.shape t.element.rows t.quasi.basis.words Ahead u x walk → walk.steps < 2 ^ 86
walk_few t typed u x walk letters under w =
    few_steps (length t.quasi.basis.words) (length u.letters) 1 walk.steps (few_words t.element.shape t.quasi.basis.words typed.within) letters (omega arith)
    (walk_bound (typed_base t typed) u under.above x under.under.rest walk under.infinite under.under.is w)

-- a walk that has come under an attractor, with more letters behind its word
pub walk_flows : {shape : Shape} {p : List Row} {X : List Word} (u x : Word) (walk : Walk) (z : List ℕ) → IsLetters shape z → IsWalk shape p X Ahead u x walk → IsAttractorWord shape p x → FlowsUnder shape p X (u · z)
walk_flows {shape} {p} {X} u x walk z hz w ends = record {
  steps = walk.steps;
  to = (x · walk.rest) · z;
  reached = record {
    above = x;
    listed = listed_at X walk.to x w.here;
    such = ends;
    carries = carries_extends shape p (pos walk.steps) u (x · walk.rest) z hz w.carries;
    under = under_trans (under_after (x · walk.rest) z) (under_after x walk.rest);
  };
  under = λ j l. early_under shape p X j u z hz (w.under j l);
}

-- a walk that has stopped before
pub walk_stuck : {shape : Shape} {p : List Row} {X : List Word} → HasSemiNormal shape p X → (u : Word) (walk : Walk) (w : IsWholeWalk shape p X Ahead u walk) → ¬ IsAttractorWord shape p w.above → IsStuck shape p X u (w.above · walk.rest) (pos walk.steps)
walk_stuck {shape} {p} {X} h u walk w open_end =
    let x = w.above in
    let k = walk.steps in
    let listed = listed_at X walk.to x w.walked.here in
    let stops = stuck w.stops in
    record {
      count = k;
      from_none = refl;
      few = w.few;
      carries = w.walked.carries;
      before = λ j l. (w.walked.under j (omega arith), λ v. w.walked.before j v l);
      under = some_at X x (x · walk.rest) listed (under_after x walk.rest);
      stops = stops;
      never = λ f. elim (cases_lt k f.steps) [
        | inl less ↦ stops (sooner_under shape p h.pair X k 1 (k + 1) refl u (x · walk.rest) w.walked.carries (f.under (k + 1) (omega arith)))
        | inr other ↦ elim (cases_lt f.steps k) [
          | inl early ↦ w.walked.before f.steps f.to early f.reached
          | inr late ↦ open_end (such_above h (pos k) u x f.to walk.rest listed w.walked.carries (subst (λ j. CarriesUnderSuch shape p (IsAttractorWord shape p) X (pos j) u f.to) (let e : f.steps ≡ k = omega arith in e) f.reached))
        ]
      ];
    }
  where
    stuck : IsAttractorWord shape p w.above ⊎ ¬ CarriesUnder shape p (pos 1) (w.above · walk.rest) X → ¬ CarriesUnder shape p (pos 1) (w.above · walk.rest) X
    stuck (inl a) = absurd (open_end a)
    stuck (inr n) = n
