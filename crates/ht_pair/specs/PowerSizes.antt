-- Powers that are made over the chain of their exponent, and the first of them that is large. This project's own.
--
--     Sign                                    plus or minus
--     signed sign k                           k or -k
--     IsFirstLarge shape p sign ks rows letters   of the powers of p by these exponents, with the sign, some is large, and the
--                                             first such has these numbers
--     NoneLarge shape p sign k                no power over the chain of k is large
--     IsLargePower shape p k rows letters     of the powers of p over the chain of |k|, with the sign of k, some is large, and the
--                                             first such has these numbers
--     IsFirstLargeOf shape ss rows letters    of these pairs some is large, and the first such has these numbers
--     NoneLargeOf shape ss                    none of these pairs is large
use Rattle.std.specs.Prelude.{ℕ, suc, ℤ, pos, negsuc, neg_ℤ, ◌⊎◌, List, [], ◌∷◌}
use Rattle.ht_word.specs.declared.shape.Shape.{Shape}
use Rattle.ht_num.specs.Chains.{chain}
use Rattle.ht_pair.specs.declared.row.Row.{Row}
use Rattle.ht_pair.specs.Sizes.{IsLarge}
use Rattle.ht_pair.specs.Products.{IsPower}

pub data Sign : Type 0 where
  Plus : Sign
  Minus : Sign

abbrev pub signed : Sign → ℕ → ℤ
signed Plus k = pos k
signed Minus k = neg_ℤ (pos k)

abbrev pub IsFirstLarge : Shape → List Row → Sign → List ℕ → ℕ → ℕ → Type 0
IsFirstLarge shape p sign [] rows letters = ⊥
IsFirstLarge shape p sign (k ∷ ks) rows letters = (s : List Row) × IsPower shape p (signed sign k) s × (IsLarge shape s rows letters ⊎ (((i j : ℕ) → ¬ IsLarge shape s i j) × IsFirstLarge shape p sign ks rows letters))

abbrev pub NoneLarge : Shape → List Row → Sign → ℕ → Type 0
NoneLarge shape p sign k = (i j : ℕ) → ¬ IsFirstLarge shape p sign (chain k) i j

abbrev pub IsLargePower : Shape → List Row → ℤ → ℕ → ℕ → Type 0
IsLargePower shape p (pos k) rows letters = IsFirstLarge shape p Plus (chain k) rows letters
IsLargePower shape p (negsuc k) rows letters = IsFirstLarge shape p Minus (chain (suc k)) rows letters

abbrev pub IsFirstLargeOf : Shape → List (List Row) → ℕ → ℕ → Type 0
IsFirstLargeOf shape [] rows letters = ⊥
IsFirstLargeOf shape (s ∷ ss) rows letters = IsLarge shape s rows letters ⊎ (((i j : ℕ) → ¬ IsLarge shape s i j) × IsFirstLargeOf shape ss rows letters)

abbrev pub NoneLargeOf : Shape → List (List Row) → Type 0
NoneLargeOf shape ss = (i j : ℕ) → ¬ IsFirstLargeOf shape ss i j
