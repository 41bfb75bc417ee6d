-- Two fractions are equal exactly where their lowest terms are; so the ratios of rates are.
use Rattle.std.proofs.Common.{◌≡◌, ℕ, ◌*◌, ◌≤◌, ◌<◌, ◌^◌, ◌++◌, inl, inr, List, [], ◌∷◌, Some, None, sym, subst, ap, ◌∙◌, arith}
use Rattle.std.proofs.Math.Nat.{eq_of_mul-eq-mul_right}
use Rattle.std.proofs.lemmas.Bool.{cases_lt}
use Rattle.ht_num.specs.Numbers.{IsRatio, IsSomeWide}
use Rattle.ht_num.proofs.FractionLaws.{ratio_once}
use Rattle.ht_pair.specs.PowerSizes.{Sign, Plus, Minus}
use Rattle.ht_power.specs.declared.rates.Rates.{Rates}
use Rattle.ht_power.specs.SignsTold.{SomeRates, TellsRatio, over_in, over_behind_in}
use Rattle.ht_power.proofs.WideNumbers.{some_wide}

-- p / q is b / a and r / s is d / c, both in lowest terms
module _ {b a d c p q r s : ℕ} (first : IsRatio b a p q) (second : IsRatio d c r s) where
  turn : (x y z : ℕ) → x * y * z ≡ x * z * y
  turn x y z = omega arith

  exchange : (x y z : ℕ) → x * y * z ≡ z * x * y
  exchange x y z = omega arith

  -- the fractions are equal, where the terms are
  pub equal_of_terms : p ≡ r → q ≡ s → b * c ≡ d * a
  equal_of_terms same_p same_q = eq_of_mul-eq-mul_right q first.positive (b * c) (d * a) (exchange b c q ∙ ap (λ (n : ℕ). n * c) (sym first.equal) ∙ turn p a c ∙ ap (λ (n : ℕ). n * c * a) same_p ∙ ap (λ (n : ℕ). n * a) (second.equal ∙ ap (λ (n : ℕ). n * d) (sym same_q)) ∙ sym (exchange d a q))

  -- and the terms are, where the fractions are
  pub terms_of_equal : 1 ≤ a → 1 ≤ c → b * c ≡ d * a → (p ≡ r) × (q ≡ s)
  terms_of_equal low some same = ratio_once b a p q r s low first (record {
    positive = second.positive;
    equal = eq_of_mul-eq-mul_right c some (r * a) (s * b) (turn r a c ∙ ap (λ (n : ℕ). n * a) second.equal ∙ regroup s d a ∙ ap (λ (n : ℕ). s * n) (sym same) ∙ sym (regroup s b c));
    lowest = second.lowest;
  })
    where
      regroup : (x y z : ℕ) → x * y * z ≡ x * (y * z)
      regroup x y z = omega arith

-- ---- of rates

-- a number among some that aren't wide is below the limit
narrow_among : (front back : List ℕ) (k : ℕ) → ¬ IsSomeWide (front ++ k ∷ back) → k < 2 ^ 127
narrow_among front back k none = elim (cases_lt k (2 ^ 127)) [ inl l ↦ l | inr wide ↦ absurd (none (some_wide front back k wide)) ]

module _ {rates : Rates} (some : SomeRates rates) where
  -- those of the first element are
  pub first_narrow : rates.first_ahead < 2 ^ 127
  first_narrow = narrow_among (rates.period ∷ []) (rates.first_behind ∷ rates.second_ahead ∷ rates.second_behind ∷ []) rates.first_ahead some.small

  pub first_behind_narrow : rates.first_behind < 2 ^ 127
  first_behind_narrow = narrow_among (rates.period ∷ rates.first_ahead ∷ []) (rates.second_ahead ∷ rates.second_behind ∷ []) rates.first_behind some.small

  second_narrow : rates.second_ahead < 2 ^ 127
  second_narrow = narrow_among (rates.period ∷ rates.first_ahead ∷ rates.first_behind ∷ []) (rates.second_behind ∷ []) rates.second_ahead some.small

  second_behind_narrow : rates.second_behind < 2 ^ 127
  second_behind_narrow = narrow_among (rates.period ∷ rates.first_ahead ∷ rates.first_behind ∷ rates.second_ahead ∷ []) [] rates.second_behind some.small

  -- and those of the second
  pub over_narrow : (sign : Sign) (over : ℕ) → over ≡ over_in sign rates → over < 2 ^ 127
  over_narrow Plus over is = subst (λ (n : ℕ). n < 2 ^ 127) (sym is) second_narrow
  over_narrow Minus over is = subst (λ (n : ℕ). n < 2 ^ 127) (sym is) second_behind_narrow

  pub over_behind_narrow : (sign : Sign) (over : ℕ) → over ≡ over_behind_in sign rates → over < 2 ^ 127
  over_behind_narrow Plus over is = subst (λ (n : ℕ). n < 2 ^ 127) (sym is) second_behind_narrow
  over_behind_narrow Minus over is = subst (λ (n : ℕ). n < 2 ^ 127) (sym is) second_narrow

  module _ (sign : Sign) {over behind p q r s : ℕ} (ahead_is : over ≡ over_in sign rates) (behind_is : behind ≡ over_behind_in sign rates) (first : IsRatio over rates.first_ahead p q) (second : IsRatio behind rates.first_behind r s) where
    at_ahead : IsRatio (over_in sign rates) rates.first_ahead p q
    at_ahead = subst (λ (n : ℕ). IsRatio n rates.first_ahead p q) ahead_is first

    at_behind : IsRatio (over_behind_in sign rates) rates.first_behind r s
    at_behind = subst (λ (n : ℕ). IsRatio n rates.first_behind r s) behind_is second

    -- their ratio at attractors and at repellers is one, where the terms are equal
    pub ratio_told : p ≡ r → q ≡ s → TellsRatio sign rates (Some (p, q))
    ratio_told same_p same_q = (equal_of_terms at_ahead at_behind same_p same_q, at_ahead)

    -- and else it isn't
    pub no_ratio_told : ¬ ((p ≡ r) × (q ≡ s)) → TellsRatio sign rates None
    no_ratio_told differ = λ same. differ (terms_of_equal at_ahead at_behind some.ahead some.behind same)
