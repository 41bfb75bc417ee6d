-- Words about numbers, for orders and exponents. `d ∣ k` is std's: d divides k.
-- Past 2^127 - 1 a number is wide; this limit is the program's own.
--
--     IsLeastPositive P m    m is the least number from 1 on with the property
--     IsLeastMultiple P k    k is the least common multiple of all numbers with the property, and 1 where there are none
--     IsLcm a b k            k is the least common multiple of a and b
--     IsRatio b a p q        p / q is b / a in lowest terms
--     IsWide k               k is past 2^127 - 1
--     IsSomeWide ks          one of the numbers is wide
use Rattle.std.specs.Prelude.{ℕ, ◌≡◌, ◌≤◌, ◌<◌, ◌*◌, ◌^◌, ◌⊎◌, List, Contains}
use Rattle.std.specs.Int.{◌∣◌, IsGcd}

pub record IsLeastPositive (P : ℕ → Type 0) (m : ℕ) : Type 0 where
  pub positive : 1 ≤ m
  pub holds : P m
  pub least : (k : ℕ) → 1 ≤ k → k < m → ¬ P k

abbrev pub IsLeastMultiple : (ℕ → Type 0) → ℕ → Type 0
IsLeastMultiple P k = IsLeastPositive (λ j. (m : ℕ) → P m → m ∣ j) k

abbrev pub IsLcm : ℕ → ℕ → ℕ → Type 0
IsLcm a b k = IsLeastMultiple (λ m. (m ≡ a) ⊎ (m ≡ b)) k

pub record IsRatio (b a p q : ℕ) : Type 0 where
  pub positive : 1 ≤ q
  pub equal : p * a ≡ q * b
  pub lowest : IsGcd p q 1

abbrev pub IsWide : ℕ → Type 0
IsWide k = 2 ^ 127 ≤ k

abbrev pub IsSomeWide : List ℕ → Type 0
IsSomeWide ks = (k : ℕ) × Contains ks k × IsWide k
