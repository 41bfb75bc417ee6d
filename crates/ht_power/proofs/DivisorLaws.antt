-- The divisors of a number, one after another, and quotients by them.
use Rattle.std.proofs.Common.{◌≡◌, ◌≤◌, ◌<◌, ◌+◌, ◌*◌, ◌/◌, ℕ, inl, inr, List, [], ◌∷◌, ◌++◌, sym, ap, ◌∙◌, subst, arith, ◌↔◌, Contains, AllPairs}
use Rattle.std.specs.Int.{◌∣◌}
use Rattle.std.proofs.Math.Nat.{mul-div_cancel', mul-div_cancel_left, mul_assoc, pos_of_dvd_of_pos, dvd-mul_left}
use Rattle.std.proofs.lemmas.Bool.{cases_lt}
use Rattle.std.proofs.lemmas.List.Elements.{Contains-append_left, Contains-push, Contains-push_cases}
use Rattle.ht_word.proofs.ListLaws.{Contains-nil, Contains-cons_cases, AllPairs-nil, AllPairs-append, AllPairs-cons}
use Rattle.std.proofs.lemmas.List.Elements.{All-nil}

-- the divisors of a number from 2 to below a bound, in ascending order
pub record AreDivisors (number bound : ℕ) (ds : List ℕ) : Type 0 where
  pub ascending : AllPairs (λ (c : ℕ) (d : ℕ). c < d) ds
  pub each : (d : ℕ) → Contains ds d ↔ ((2 ≤ d) × (d < bound) × (d ∣ number))

pub divisors_none : (number : ℕ) → AreDivisors number 2 []
divisors_none number = record {
  ascending = AllPairs-nil (λ (c : ℕ) (d : ℕ). c < d);
  each = λ d. ((λ c. absurd (Contains-nil d c)), (λ (low, high, divides). absurd (omega arith)));
}

-- one more number that divides
pub divisors_more : (number d : ℕ) (ds : List ℕ) → 2 ≤ d → d ∣ number → AreDivisors number d ds → AreDivisors number (d + 1) (ds ++ d ∷ [])
divisors_more number d ds low divides h = record {
  ascending = AllPairs-append R ds (d ∷ []) h.ascending (AllPairs-cons R d [] (All-nil (R d)) (AllPairs-nil R)) (λ x y c e. subst (λ (n : ℕ). x < n) (only y e) (((h.each x).0 c).1));
  each = λ e. (to e, back e);
}
  where
    R : ℕ → ℕ → Type 0
    R c e = c < e

    only : (y : ℕ) → Contains (d ∷ []) y → d ≡ y
    only y c = elim (Contains-cons_cases d [] y c) [ inl e ↦ e | inr n ↦ absurd (Contains-nil y n) ]

    to : (e : ℕ) → Contains (ds ++ d ∷ []) e → (2 ≤ e) × (e < d + 1) × (e ∣ number)
    to e c = elim (Contains-push_cases ds d e c) [
      | inl old ↦ let is = (h.each e).0 old in (is.0, omega (arith, is.1), is.2)
      | inr same ↦ (omega arith, omega arith, subst (λ (n : ℕ). n ∣ number) same divides)
    ]

    back : (e : ℕ) → (2 ≤ e) × (e < d + 1) × (e ∣ number) → Contains (ds ++ d ∷ []) e
    back e (some, less, over) = elim (cases_lt e d) [
      | inl below ↦ Contains-append_left ds (d ∷ []) e ((h.each e).1 (some, below, over))
      | inr above ↦ subst (Contains (ds ++ d ∷ [])) (omega arith) (Contains-push ds d)
    ]

-- one more number that doesn't
pub divisors_same : (number d : ℕ) (ds : List ℕ) → ¬ (d ∣ number) → AreDivisors number d ds → AreDivisors number (d + 1) ds
divisors_same number d ds other h = record { ascending = h.ascending; each = λ e. (to e, back e) }
  where
    to : (e : ℕ) → Contains ds e → (2 ≤ e) × (e < d + 1) × (e ∣ number)
    to e c = let is = (h.each e).0 c in (is.0, omega (arith, is.1), is.2)

    back : (e : ℕ) → (2 ≤ e) × (e < d + 1) × (e ∣ number) → Contains ds e
    back e (some, less, over) = elim (cases_lt e d) [
      | inl below ↦ (h.each e).1 (some, below, over)
      | inr above ↦ absurd (other (subst (λ (n : ℕ). n ∣ number) (omega arith) over))
    ]

-- the quotient by a divisor of a divisor is a multiple of that by the other
pub quotient_over : (n d e : ℕ) → 1 ≤ e → e ∣ d → d ∣ n → d / e * (n / d) ≡ n / e
quotient_over n d e low over divides =
    let whole : n ≡ e * (d / e * (n / d)) = sym (mul-div_cancel' d divides) ∙ ap (λ (i : ℕ). i * (n / d)) (sym (mul-div_cancel' e over)) ∙ mul_assoc e (d / e) (n / d) in
    sym (mul-div_cancel_left (d / e * (n / d)) low) ∙ ap (λ (i : ℕ). i / e) (sym whole)

-- the quotient of a number from 1 on by a divisor is one from 1 on
pub quotient_positive : (n d : ℕ) → 1 ≤ n → d ∣ n → 1 ≤ n / d
quotient_positive n d low divides = pos_of_dvd_of_pos (dvd_of_div n d divides) low
  where
    dvd_of_div : (n d : ℕ) → d ∣ n → n / d ∣ n
    dvd_of_div n d divides = subst (λ (k : ℕ). n / d ∣ k) (mul-div_cancel' d divides) (dvd-mul_left (n / d) d)
