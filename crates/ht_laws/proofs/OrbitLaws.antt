-- Sharing of orbits, ponds and addresses.
use Rattle.std.proofs.Common.{◌≡◌, ℕ, ◌≤◌, inl, inr, List, sym, subst, arith, ℤ, pos, neg_ℤ, ◌-ℤ◌}
use Rattle.std.proofs.lemmas.Bool.{cases_lt}
use Rattle.std.proofs.lemmas.Int.{ints}
use Rattle.ht_word.specs.Words.{◌·◌}
use Rattle.ht_word.specs.declared.shape.Shape.{Shape}
use Rattle.ht_word.specs.declared.word.Word.{Word}
use Rattle.ht_num.proofs.NumberLaws.{once_least}
use Rattle.ht_pair.specs.Addresses.{IsAddress}
use Rattle.ht_pair.specs.Orbits.{ShareOrbit, IsPond}
use Rattle.ht_pair.specs.Pairs.{IsPair}
use Rattle.ht_pair.specs.SemiNormal.{CarriesUnder}
use Rattle.ht_pair.specs.Steps.{Carries}
use Rattle.ht_pair.specs.declared.row.Row.{Row}
use Rattle.ht_pair.proofs.CarriesLaws.{carries_single, carries_back, carries_sum}

-- the power of a pond is at least the second
pub pond_long : (shape : Shape) (p : List Row) (X : List Word) (u v : Word) (k : ℕ) → IsPond shape p X u k v → 2 ≤ k
pond_long shape p X u v k h = elim (cases_lt 1 k) [
  | inl l ↦ l
  | inr l ↦ (let one : k ≡ 1 = omega (arith, l, h.first.positive) in absurd (h.leaves (subst (λ j. CarriesUnder shape p (pos j) u X) one h.first.holds)))
]

-- a word has one pond at most
pub pond_once : (shape : Shape) (p : List Row) (X : List Word) (u v w : Word) (k j : ℕ) → IsPair shape p → IsPond shape p X u k v → IsPond shape p X u j w → (k ≡ j) × (v ≡ w)
pond_once shape p X u v w k j pair h g =
    let same : k ≡ j = once_least k j h.first g.first in
    (same, carries_single shape p pair (pos k) u v w h.carries (subst (λ i. Carries shape p (pos i) u w) (sym same) g.carries))

-- two words with the same attractor and letters share an orbit by the difference of the powers
pub same_address : (shape : Shape) (p : List Row) (X : List Word) (u w x : Word) (z : List ℕ) (k j : ℤ) → IsPair shape p → IsAddress shape p X u x z k → IsAddress shape p X w x z j → ShareOrbit shape p u w (k -ℤ j)
same_address shape p X u w x z k j pair h g = carries_sum shape p pair k (neg_ℤ j) (k -ℤ j) (omega (arith, ints)) u (x · z) w h.carries (carries_back shape p pair j w (x · z) g.carries)
