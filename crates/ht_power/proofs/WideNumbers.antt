-- Numbers of which one is wide, or none.
use Rattle.std.proofs.Common.{ℕ, ◌<◌, ◌^◌, inl, inr, List, [], ◌∷◌, ◌++◌, length, get_or, arith, Contains}
use Rattle.std.proofs.lemmas.Bool.{cases_lt}
use Rattle.std.proofs.lemmas.List.Elements.{Contains-append_right, Contains-get_or}
use Rattle.ht_word.proofs.ListLaws.{Contains-nil, Contains-here, Contains-cons_cases}
use Rattle.ht_num.specs.Numbers.{IsWide, IsSomeWide}

-- a wide number is one of some
pub some_wide : (front back : List ℕ) (k : ℕ) → IsWide k → IsSomeWide (front ++ k ∷ back)
some_wide front back k wide = (k, Contains-append_right front (k ∷ back) k (Contains-here k back), wide)

-- of no numbers none is
pub none_wide : ¬ IsSomeWide []
none_wide (k, c, wide) = Contains-nil k c

-- and of one more, which isn't wide
pub none_wide_too : (k : ℕ) (ks : List ℕ) → k < 2 ^ 127 → ¬ IsSomeWide ks → ¬ IsSomeWide (k ∷ ks)
none_wide_too k ks narrow none (j, c, wide) = elim (Contains-cons_cases k ks j c) [
  | inl e ↦ omega (arith, narrow, wide, e)
  | inr d ↦ none (j, d, wide)
]

-- neither of two is
pub both_narrow : (i j : ℕ) → i < 2 ^ 127 → j < 2 ^ 127 → ¬ IsSomeWide (i ∷ j ∷ [])
both_narrow i j first second = none_wide_too i (j ∷ []) first (none_wide_too j [] second none_wide)

-- so each is below the limit
pub narrow_in : (ks : List ℕ) (k : ℕ) → ¬ IsSomeWide ks → Contains ks k → k < 2 ^ 127
narrow_in ks k none c = elim (cases_lt k (2 ^ 127)) [ inl l ↦ l | inr wide ↦ absurd (none (k, c, wide)) ]

-- at each place
pub narrow_at : (ks : List ℕ) (place : ℕ) → ¬ IsSomeWide ks → place < length ks → get_or ks place 0 < 2 ^ 127
narrow_at ks place none inside = narrow_in ks (get_or ks place 0) none (Contains-get_or ks place 0 inside)
