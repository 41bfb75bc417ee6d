-- Where a canonical pair carries the words of a basis, told from its rows; and where a pair that mirrors it does.
use Rattle.std.proofs.Common.{◌≡◌, ℕ, ◌+◌, inl, inr, List, [], ◌∷◌, ◌++◌, length, Some, slice_get, refl, sym, ap, ◌∙◌, subst, arith, ℤ, pos, neg_ℤ}
use Rattle.std.proofs.lemmas.List.{length-append}
use Rattle.ht_word.specs.Words.{IsWordOf, ◌·◌}
use Rattle.ht_word.specs.declared.shape.Shape.{Shape}
use Rattle.ht_word.specs.declared.word.Word.{Word}
use Rattle.ht_word.proofs.WordLaws.{after-append, word_rest}
use Rattle.ht_pair.specs.Actions.{Moves, IsCanonical}
use Rattle.ht_pair.specs.Elements.{ElementValue}
use Rattle.ht_pair.specs.Pairs.{IsPair}
use Rattle.ht_pair.specs.Steps.{Carries}
use Rattle.ht_pair.specs.declared.row.Row.{Row}
use Rattle.ht_pair.proofs.CarriesLaws.{carries_extends}
use Rattle.ht_quasi.proofs.MirrorLaws.{Mirrors, inverse_mirrors}
use Rattle.ht_quasi.proofs.StepLaws.{moved_carries, at_push, same_at}
use Rattle.ht_types.specs.Flows.{power_in, LeadsIn}
use Rattle.ht_types.specs.declared.direction.Direction.{Direction}
use Rattle.ht_types.specs.declared.direction.Direction.TheVariants.{Ahead, Behind}
use Rattle.ht_types.specs.declared.step.Step.{Step}
use Rattle.ht_types.specs.declared.step.Step.TheVariants.{Splits, Leads}
use Rattle.ht_types.specs.WordSteps.{LeadsTo, HasStep, AreSteps}

-- a word that is moved to a word of the basis with letters behind it leads there
pub leads_there : (shape : Shape) (p : List Row) → IsCanonical shape p → (X W : List Word) (u v y : Word) (rest : List ℕ) (place : ℕ) → IsWordOf shape u → Moves p u v → W ≡ X → slice_get W place ≡ Some y → v ≡ y · rest → LeadsTo shape p X (pos 1) u place rest
leads_there shape p canonical X W u v y rest place h m are here is = record {
  above = y;
  here = subst (λ V. slice_get V place ≡ Some y) are here;
  carries = subst (Carries shape p (pos 1) u) is (moved_carries shape p canonical u v h m);
}

-- with letters behind it the word leads there with these behind the others
pub leads_below : (shape : Shape) (p : List Row) (X : List Word) (k : ℤ) (x : Word) (z : List ℕ) (to : ℕ) (rest : List ℕ) → IsWordOf shape (x · z) → LeadsTo shape p X k x to rest → LeadsTo shape p X k (x · z) to (rest ++ z)
leads_below shape p X k x z to rest h l = record {
  above = l.above;
  here = l.here;
  carries = subst (Carries shape p k (x · z)) (after-append l.above rest z) (carries_extends shape p k x (l.above · rest) z (word_rest shape x z h) l.carries);
}

-- ---- steps the other way round

-- where a mirror of p leads by one power, p leads by the other
pub step_to : {shape : Shape} {p q : List Row} → Mirrors shape p q → (X : List Word) (k : ℤ) (x : Word) (step : Step) → HasStep shape q X k x step → HasStep shape p X (neg_ℤ k) x step
step_to m X k x Splits none = λ v carries. none v (m.from k x v carries)
step_to m X k x (Leads to rest) l = record { above = l.above; here = l.here; carries = m.to k x (l.above · rest) l.carries }

pub step_from : {shape : Shape} {p q : List Row} → Mirrors shape p q → (X : List Word) (k : ℤ) (x : Word) (step : Step) → HasStep shape p X (neg_ℤ k) x step → HasStep shape q X k x step
step_from m X k x Splits none = λ v carries. none v (m.to k x v carries)
step_from m X k x (Leads to rest) l = record { above = l.above; here = l.here; carries = m.from k x (l.above · rest) l.carries }

-- the steps of the element's own rows by the power below 0 are those of a mirror ahead
pub steps_from : {shape : Shape} {p q : List Row} → Mirrors shape p q → (X : List Word) (k : ℤ) (steps : List Step) → AreSteps shape p X (neg_ℤ k) steps → AreSteps shape q X k steps
steps_from m X k steps are = record { as_many = are.as_many; each = λ place x step here at. step_from m X k x step (are.each place x step here at) }

-- a step ahead of what makes the steps in a direction is one of the element in that direction
pub mover_step : (direction : Direction) (a b : ElementValue) → IsPair a.shape a.rows → LeadsIn direction a b → (X : List Word) (x : Word) (step : Step) → HasStep b.shape b.rows X (pos 1) x step → HasStep a.shape a.rows X (power_in direction 1) x step
mover_step Ahead a b pair e X x step h = subst (λ (v : ElementValue). HasStep v.shape v.rows X (pos 1) x step) e h
mover_step Behind a b pair l X x step h = step_to (inverse_mirrors a.shape a.rows b.rows pair l.1) X (pos 1) x step (subst (λ (s : Shape). HasStep s b.rows X (pos 1) x step) l.0 h)

pub mover_steps : (direction : Direction) (a b : ElementValue) → IsPair a.shape a.rows → LeadsIn direction a b → (X : List Word) (steps : List Step) → AreSteps b.shape b.rows X (pos 1) steps → AreSteps a.shape a.rows X (power_in direction 1) steps
mover_steps direction a b pair l X steps are = record { as_many = are.as_many; each = λ place x step here at. mover_step direction a b pair l X x step (are.each place x step here at) }

-- ---- the steps of all words

-- the first words of X have their steps
pub record HaveSteps (shape : Shape) (p : List Row) (X : List Word) (count : ℕ) (steps : List Step) : Type 0 where
  pub many : length steps ≡ count
  pub each : (place : ℕ) (x : Word) (step : Step) → slice_get X place ≡ Some x → slice_get steps place ≡ Some step → HasStep shape p X (pos 1) x step

-- one more step
pub one_more_step : (shape : Shape) (p : List Row) (X : List Word) (count : ℕ) (steps new : List Step) (x : Word) (step : Step) → HaveSteps shape p X count steps → slice_get X count ≡ Some x → HasStep shape p X (pos 1) x step
    → new ≡ steps ++ step ∷ [] → HaveSteps shape p X (count + 1) new
one_more_step shape p X count steps new x step h here has e = subst (HaveSteps shape p X (count + 1)) (sym e) (record {
  many = omega (arith, h.many, length-append steps (step ∷ []));
  each = λ place y s at_X at. elim (at_push steps step s place at) [
    | inl k ↦ h.each place y s at_X k
    | inr k ↦ (let same : y ≡ x = same_at X X place y x refl at_X (ap (λ i. slice_get X i) (k.0 ∙ h.many) ∙ here) in
        subst (HasStep shape p X (pos 1) y) k.1 (subst (λ t. HasStep shape p X (pos 1) t step) (sym same) has))
  ];
})
