-- Words under the infinite part that share an orbit: their addresses tell by which power. X is a semi-normal basis of p.
use Rattle.std.proofs.Common.{◌≡◌, ℕ, ◌<◌, ◌^◌, List, [], ◌++◌, Some, None, slice_get, sym, ap, ◌∙◌, subst, subst₂, arith, ℤ, neg_ℤ, to_z, of_z}
use Rattle.std.specs.Prelude.{◌-ℤ◌, nat_abs}
use Rattle.std.specs.Int.{w128}
use Rattle.std.proofs.lemmas.Int.{ints, fits_signed_from_abs, to_z-of_z}
use Rattle.std.proofs.lemmas.List.Elements.{All-nil}
use Rattle.ht_word.specs.Words.{◌·◌, IsLetter, IsLetters}
use Rattle.ht_word.specs.declared.shape.Shape.{Shape}
use Rattle.ht_word.specs.declared.word.Word.{Word}
use Rattle.ht_word.proofs.WordLaws.{after-append, after-nil, letters_append}
use Rattle.ht_pair.specs.Kinds.{IsCycleWord}
use Rattle.ht_pair.specs.Steps.{Carries}
use Rattle.ht_pair.specs.declared.row.Row.{Row}
use Rattle.ht_pair.proofs.BasisLaws.{basis_single}
use Rattle.ht_pair.proofs.CarriesLaws.{carries_back, carries_extends, carries_sum}
use Rattle.ht_types.specs.CycleWords.{IsUnderCycle}
use Rattle.ht_types.specs.Flows.{IsUnderInfinite}
use Rattle.ht_types.specs.Shares.{IsShare}
use Rattle.ht_types.proofs.CourseLaws.{same_place}
use Rattle.ht_types.proofs.TurnLaws.{HasSemiNormal, infinite_kept}
use Rattle.ht_flow.specs.Flowing.{FlowsUnder, IsAddressed}
use Rattle.ht_flow.proofs.AddressLaws.{address_shared}
use Rattle.ht_share.specs.Exits.{AreExits}

-- ---- the two parts

-- no word is under both parts
infinite_only : {shape : Shape} {p : List Row} {X : List Word} {u : Word} → HasSemiNormal shape p X → IsUnderInfinite shape p X u → (m : ℕ) → IsUnderCycle shape p X u m → ⊥
infinite_only {shape} {p} {X} {u} h i m c = i.infinite.1 (subst (λ x. IsCycleWord shape p x) (basis_single shape X h.semi.basis u c.above i.above c.listed i.infinite.0 c.under i.under) (m, c.cycle))

-- and none of the one shares an orbit with one of the other
pub parts_apart : {shape : Shape} {p : List Row} {X : List Word} → HasSemiNormal shape p X → (u v : Word) (m : ℕ) → IsUnderInfinite shape p X u → IsUnderCycle shape p X v m → IsShare shape p X u v None
parts_apart {shape} {p} {X} h u v m i c = λ k carries.
    (infinite_kept h k i.above c.above i.under.rest c.under.rest i.infinite c.listed (subst₂ (Carries shape p k) i.under.is c.under.is carries)).1 (m, c.cycle)

-- ---- addresses

-- letters with which u flows, and then letters with which v flows with these behind it
pub exits_joined : (shape : Shape) (p : List Row) (X : List Word) (u v : Word) (y z : List ℕ) → IsLetters shape y → IsLetters shape z
    → ((t : List ℕ) → IsLetters shape t → FlowsUnder shape p X ((u · y) · t)) → ((t : List ℕ) → IsLetters shape t → FlowsUnder shape p X (((v · y) · z) · t)) → AreExits shape p X u v (y ++ z)
exits_joined shape p X u v y z hy hz first second = record {
  of_shape = letters_append shape y z hy hz;
  first = subst (FlowsUnder shape p X) (after-append u y z) (first z hz);
  second = subst (FlowsUnder shape p X) (after-nil ((v · y) · z) ∙ after-append v y z) (second [] (All-nil (IsLetter shape)));
}

-- of two words of which a power carries the one to the other, the addresses with the same letters behind both are at one place with one rest, and differ by that power
pub addresses_along : {shape : Shape} {p : List Row} {X : List Word} → HasSemiNormal shape p X → (u v : Word) (z : List ℕ) (at to : ℕ) (rest left : List ℕ) (steps more i : ℤ) → IsLetters shape z
    → IsAddressed shape p X (u · z) at rest steps → IsAddressed shape p X (v · z) to left more → Carries shape p i u v → (at ≡ to) × (rest ≡ left) × (i ≡ steps -ℤ more)
addresses_along {shape} {p} {X} h u v z at to rest left steps more i hz a b carries =
    let one = address_shared shape p X h.pair h.semi (u · z) (v · z) a.above b.above rest left steps more i a.address b.address (carries_extends shape p i u v z hz carries) in
    (same_place X h.semi.basis.prefix_free at to a.above b.above a.here b.here one.0, one.1, one.2)

-- words whose addresses with letters behind them are at one place with one rest are carried the one to the other with these letters
pub addresses_behind : {shape : Shape} {p : List Row} {X : List Word} → HasSemiNormal shape p X → (u v : Word) (at to : ℕ) (rest left : List ℕ) (steps more : ℤ) → at ≡ to → rest ≡ left → IsAddressed shape p X u at rest steps → IsAddressed shape p X v to left more → Carries shape p (steps -ℤ more) u v
addresses_behind {shape} {p} {X} h u v at to rest left steps more places rests a b =
    let one : a.above ≡ b.above = (let k : Some a.above ≡ Some b.above = sym a.here ∙ ap (λ i. slice_get X i) places ∙ b.here in cc) in
    let first : Carries shape p steps u (b.above · left) = subst₂ (λ x z. Carries shape p steps u (x · z)) one rests a.address.carries in
    carries_sum shape p h.pair steps (neg_ℤ more) (steps -ℤ more) (omega (arith, ints)) u (b.above · left) v first (carries_back shape p h.pair more v (b.above · left) b.address.carries)

-- ---- the share

-- the difference of two short numbers of steps, as it is computed
pub few_between : (j k : ℤ) → nat_abs j < 2 ^ 121 → nat_abs k < 2 ^ 121 → (to_z w128 (of_z w128 (to_z w128 (of_z w128 j) -ℤ to_z w128 (of_z w128 k))) ≡ j -ℤ k) × (nat_abs (j -ℤ k) < 2 ^ 122)
few_between j k first second =
    let few : nat_abs (j -ℤ k) < 2 ^ 122 = omega (arith, ints) in (
      ap (λ i. to_z w128 (of_z w128 i)) (ap (λ i. i -ℤ to_z w128 (of_z w128 k)) (kept j (omega arith)) ∙ ap (λ i. j -ℤ i) (kept k (omega arith))) ∙ kept (j -ℤ k) (omega arith),
      few,
    )
  where
    kept : (i : ℤ) → nat_abs i < 2 ^ 127 → to_z w128 (of_z w128 i) ≡ i
    kept i few = to_z-of_z w128 i (fits_signed_from_abs w128 i few)

pub share_tested : {shape : Shape} {p : List Row} {X : List Word} → HasSemiNormal shape p X → (u v : Word) (k : ℤ) → IsUnderInfinite shape p X u → nat_abs k < 2 ^ 122 → Carries shape p k u v → IsShare shape p X u v (Some k)
share_tested h u v k i few carries = (carries, few, (λ m under. absurd (infinite_only h i m under)))

pub share_refuted : (shape : Shape) (p : List Row) (X : List Word) (u v : Word) (k : ℤ) → ((j : ℤ) → Carries shape p j u v → j ≡ k) → ¬ Carries shape p k u v → IsShare shape p X u v None
share_refuted shape p X u v k only none = λ j carries. none (subst (λ i. Carries shape p i u v) (only j carries) carries)
