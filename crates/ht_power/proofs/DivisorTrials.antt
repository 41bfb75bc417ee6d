-- The trials of the divisors of two orders, one after another.
use Rattle.std.proofs.Common.{◌≡◌, ◌≤◌, ◌<◌, ◌+◌, ◌/◌, ◌^◌, ℕ, inl, inr, List, [], ◌∷◌, length, get_or, take, drop, drop-cons, add-one, sym, ap, ◌∙◌, subst, subst₂, arith, All, Contains, ℤ, pos, ◌*ℤ◌}
use Rattle.std.specs.Int.{◌∣◌}
use Rattle.std.proofs.Math.IntN.{pos-*ℤ-pos}
use Rattle.std.proofs.lemmas.List.{take_more}
use Rattle.std.proofs.Math.Nat.{div-le_self}
use Rattle.std.proofs.lemmas.List.Elements.{All-get_or, All-take, All-weaker, Contains-push_cases}
use Rattle.ht_word.specs.declared.shape.Shape.{Shape}
use Rattle.ht_word.proofs.ListLaws.{Contains-nil}
use Rattle.ht_pair.specs.Conjugacy.{AreConjugate}
use Rattle.ht_pair.specs.FiniteTrials.{FiniteTrials}
use Rattle.ht_pair.specs.Pairs.{IsPair}
use Rattle.ht_pair.specs.PowerSizes.{Plus}
use Rattle.ht_pair.specs.PowerTrials.{PowerAnswer, Powers, NoPowers, TooLarge, IsPrinted, TrialIsLarge, TrialCompares}
use Rattle.ht_pair.specs.Products.{IsPower}
use Rattle.ht_pair.specs.declared.row.Row.{Row}
use Rattle.ht_pair.proofs.ConjugatePowerLaws.{conjugates_power}
use Rattle.ht_pair.proofs.PowerLaws.{power_exists}
use Rattle.ht_pair.proofs.PowerProducts.{power_mul}
use Rattle.ht_laws.proofs.AlikeTrialLaws.{conjugates_powers}
use Rattle.ht_power.specs.FiniteOrders.{AreTrialDivisors}
use Rattle.ht_power.proofs.DivisorLaws.{quotient_over, quotient_positive}

-- ---- powers that aren't conjugate

-- no powers by these exponents are conjugate
pub record AreApart (shape : Shape) (a b : List Row) (i j : ℕ) : Type 0 where
  pub apart : (f g : List Row) → IsPower shape a (pos i) f → IsPower shape b (pos j) g → ¬ AreConjugate shape f g

-- where two that are made aren't
pub compared_apart : (shape : Shape) (a b : List Row) (i j : ℕ) (f g : List Row) → IsPair shape a → IsPair shape b → TrialCompares shape a b Plus i j f g → ¬ AreConjugate shape f g → AreApart shape a b i j
compared_apart shape a b i j f g pair_a pair_b compared other = record {
  apart = λ s t hs ht conjugate. other (record {
    by = conjugate.by;
    conjugates = conjugates_powers shape conjugate.by a b s t f g (pos i) (pos j) pair_a pair_b hs ht compared.first_power compared.second_power conjugate.conjugates;
  });
}

-- the power by the quotient over a divisor of d is one of the power by that over d
power_over : (shape : Shape) (p s t : List Row) (n d e : ℕ) → 1 ≤ e → e ∣ d → d ∣ n → IsPair shape p → IsPower shape p (pos (n / d)) s → IsPower shape s (pos (d / e)) t → IsPower shape p (pos (n / e)) t
power_over shape p s t n d e low over divides pair hs ht =
    let is : pos (d / e) *ℤ pos (n / d) ≡ pos (n / e) = pos-*ℤ-pos (d / e) (n / d) ∙ ap (λ (i : ℕ). pos i) (quotient_over n d e low over divides) in
    subst (λ (k : ℤ). IsPower shape p k t) is (power_mul shape p s t (pos (n / d)) (pos (d / e)) pair hs ht)

-- so the powers over a number aren't conjugate, where those over a divisor of it aren't
pub apart_over : (shape : Shape) (a b : List Row) (m n d e : ℕ) → IsPair shape a → IsPair shape b → 1 ≤ e → e ∣ d → d ∣ m → d ∣ n → AreApart shape a b (m / e) (n / e) → AreApart shape a b (m / d) (n / d)
apart_over shape a b m n d e pair_a pair_b low over first second h = record {
  apart = λ f g hf hg conjugate.
      let s = power_exists shape f (pos (d / e)) hf.pair in
      let t = power_exists shape g (pos (d / e)) hg.pair in
      h.apart s.0 t.0 (power_over shape a f s.0 m d e low over first pair_a hf s.1) (power_over shape b g t.0 n d e low over second pair_b hg t.1) (record {
        by = conjugate.by;
        conjugates = conjugates_power shape conjugate.by f g s.0 t.0 (pos (d / e)) hf.pair hg.pair conjugate.conjugates s.1 t.1;
      });
}

-- ---- the divisors that are tried

-- one from 2 on that divides both orders
abbrev pub IsTrialDivisor : ℕ → ℕ → ℕ → Type 0
IsTrialDivisor m n d = (2 ≤ d) × (d ∣ m) × (d ∣ n)

-- is at each place
pub divisor_at : (m n : ℕ) (ds : List ℕ) (place : ℕ) → AreTrialDivisors m n ds → place < length ds → IsTrialDivisor m n (get_or ds place 0)
divisor_at m n ds place divisors inside = All-get_or (IsTrialDivisor m n) ds place 0 inside divisors.each

-- so those before a place are from 1 on
pub positive_before : (m n : ℕ) (ds : List ℕ) (place : ℕ) → AreTrialDivisors m n ds → All (λ d. 1 ≤ d) (take place ds)
positive_before m n ds place divisors = All-weaker (IsTrialDivisor m n) (λ d. 1 ≤ d) (λ d h. omega (arith, h.0)) (take place ds) (All-take (IsTrialDivisor m n) place ds divisors.each)

-- and the quotient over each is a positive number within the limit
pub quotient_within : (k d : ℕ) → 1 ≤ k → k < 2 ^ 127 → d ∣ k → (1 ≤ k / d) × (k / d < 2 ^ 127)
quotient_within k d low high divides = (quotient_positive k d low divides, omega (arith, div-le_self k d, high))

-- ---- the trials before a place

-- no powers over the divisors before the place are conjugate, and what the trials of the others answer, all trials answer
pub record IsTriedTo (shape : Shape) (a b : List Row) (m n : ℕ) (ds : List ℕ) (place : ℕ) : Type 0 where
  pub apart : (d : ℕ) → Contains (take place ds) d → AreApart shape a b (m / d) (n / d)
  pub answers : (answer : PowerAnswer) → FiniteTrials shape a b m n (drop place ds) answer → FiniteTrials shape a b m n ds answer

module _ (shape : Shape) (a b : List Row) (m n : ℕ) (ds : List ℕ) where
  pub tried_none : IsTriedTo shape a b m n ds 0
  tried_none = record { apart = λ d c. absurd (Contains-nil d c); answers = λ answer h. h }

  -- the divisor at a place
  abbrev at : ℕ → ℕ
  at place = get_or ds place 0

  -- an answer of the trials from a place on is one of all
  answer_from : (place : ℕ) (answer : PowerAnswer) → place < length ds → IsTriedTo shape a b m n ds place → FiniteTrials shape a b m n (at place ∷ drop (place + 1) ds) answer → FiniteTrials shape a b m n ds answer
  answer_from place answer inside h trials = h.answers answer (subst (λ (W : List ℕ). FiniteTrials shape a b m n W answer) (sym (drop-cons ds place 0 inside ∙ cc (add-one place))) trials)

  -- one more trial
  pub tried_more : (place : ℕ) (f g : List Row) → place < length ds → TrialCompares shape a b Plus (m / at place) (n / at place) f g → AreApart shape a b (m / at place) (n / at place) → IsTriedTo shape a b m n ds place → IsTriedTo shape a b m n ds (place + 1)
  tried_more place f g inside compared apart h = record {
    apart = λ e c. elim (Contains-push_cases (take place ds) (at place) e (subst (λ (W : List ℕ). Contains W e) (take_more ds place 0 inside) c)) [
      | inl old ↦ h.apart e old
      | inr same ↦ subst (λ (k : ℕ). AreApart shape a b (m / k) (n / k)) same apart
    ];
    answers = λ answer later. answer_from place answer inside h (FiniteTrials.go_on compared (apart.apart f g compared.first_power compared.second_power) later);
  }

  -- the trial at a place ends them, where a power is large
  pub tried_large : (place rows letters : ℕ) → place < length ds → TrialIsLarge shape a b Plus (m / at place) (n / at place) rows letters → IsTriedTo shape a b m n ds place → FiniteTrials shape a b m n ds (TooLarge rows letters)
  tried_large place rows letters inside large h = answer_from place (TooLarge rows letters) inside h (FiniteTrials.large large)

  -- or where the powers are conjugate
  pub tried_found : (place : ℕ) (f g by : List Row) (i j : ℤ) → place < length ds → i ≡ pos (m / at place) → j ≡ pos (n / at place) → TrialCompares shape a b Plus (m / at place) (n / at place) f g → IsPrinted shape f g by
      → IsTriedTo shape a b m n ds place → FiniteTrials shape a b m n ds (Powers i j by)
  tried_found place f g by i j inside first second compared printed h =
      answer_from place (Powers i j by) inside h
      (subst₂ (λ (k l : ℤ). FiniteTrials shape a b m n (at place ∷ drop (place + 1) ds) (Powers k l by)) (sym first) (sym second) (FiniteTrials.found compared printed))

  -- or behind the last
  pub tried_all : (place : ℕ) → drop place ds ≡ [] → IsTriedTo shape a b m n ds place → FiniteTrials shape a b m n ds NoPowers
  tried_all place ended h = h.answers NoPowers (subst (λ (W : List ℕ). FiniteTrials shape a b m n W NoPowers) (sym ended) FiniteTrials.none_left)
