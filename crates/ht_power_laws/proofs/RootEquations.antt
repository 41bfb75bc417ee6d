-- Roots of equations of letters: where A some times in front of y is y with B as often behind it, A in front of y is y with B behind it.
use Rattle.std.proofs.Common.{◌≡◌, ◌≢◌, ℕ, zero, suc, ◌*◌, ◌/◌, ◌≤◌, List, [], ◌++◌, length, take, refl, sym, ap, ◌∙◌, subst₂, arith, append_assoc, append-nil, suc-mul, zero-mul}
use Rattle.std.specs.Int.{◌∣◌}
use Rattle.std.proofs.Math.Nat.{div-mul_cancel, eq_of_mul-eq-mul_left, one-le-mul, pos_of_dvd_of_pos}
use Rattle.std.proofs.lemmas.List.{append_cancel_left, length-append, take_at}
use Rattle.ht_pair.specs.Repeats.{repeated}
use Rattle.ht_pair.proofs.KindLaws.{length-repeated}
use Rattle.ht_types.proofs.AttractorLaws.{repeated_first, repeated_next, repeated_none}
use Rattle.ht_types.proofs.PointLaws.{repeated_length}
use Rattle.ht_pieces.proofs.TurnedLetters.{repeated_add, turn_of, turn_passes}
use Rattle.ht_laws.proofs.PartEndLaws.{quotient_positive}

repeated_times : (s t : ℕ) (G : List ℕ) → repeated s (repeated t G) ≡ repeated (s * t) G
repeated_times zero t G = repeated_none (repeated t G) ∙ sym (repeated_none G) ∙ ap (λ k. repeated k G) (sym (zero-mul t))
repeated_times (suc s) t G =
    repeated_next s (repeated t G) ∙ ap (λ z. z ++ repeated t G) (repeated_times s t G) ∙ repeated_add (s * t) t G
    ∙ ap (λ k. repeated k G) (sym (suc-mul s t))

-- letters that pass through y do so as often as they come
passes_times : (A y C : List ℕ) → A ++ y ≡ y ++ C → (t : ℕ) → repeated t A ++ y ≡ y ++ repeated t C
passes_times A y C e zero =
    ap (λ z. z ++ y) (repeated_none A) ∙ sym (append-nil y) ∙ ap (λ z. y ++ z) (sym (repeated_none C))
passes_times A y C e (suc t) =
    let R = repeated t A in
    let S = repeated t C in
    ap (λ z. z ++ y) (repeated_next t A) ∙ append_assoc R A y ∙ ap (λ z. R ++ z) e ∙ sym (append_assoc R y C)
    ∙ ap (λ z. z ++ C) (passes_times A y C e t) ∙ append_assoc y S C ∙ ap (λ z. y ++ z) (sym (repeated_next t C))

-- letters of which as many are equal, are equal
root_once : (C B : List ℕ) (t : ℕ) → 1 ≤ t → repeated t C ≡ repeated t B → C ≡ B
root_once C B zero low e = absurd (omega arith)
root_once C B (suc k) low e =
    let l = length B in
    let sizes = sym (repeated_length (suc k) C) ∙ ap (λ (z : List ℕ). length z) e ∙ repeated_length (suc k) B in
    let long : length C ≡ l = eq_of_mul-eq-mul_left (suc k) low (length C) l sizes in
    let fronts = sym (repeated_first k C) ∙ e ∙ repeated_first k B in
    sym (take_at C (repeated k C) l long) ∙ ap (λ z. take l z) fronts ∙ take_at B (repeated k B) l refl

-- what passes through y some times, passes through it
passes_once : (A y B : List ℕ) (t : ℕ) → A ≢ [] → 1 ≤ t → repeated t A ++ y ≡ y ++ repeated t B → A ++ y ≡ y ++ B
passes_once A y B t some low e =
    let turn = turn_of A (repeated t B) some t low y e in
    let C = turn.back ++ turn.front in
    let once : A ++ y ≡ y ++ C = turn_passes A y turn in
    let same = append_cancel_left y (repeated t C) (repeated t B) (sym (passes_times A y C once t) ∙ e) in
    once ∙ ap (λ z. y ++ z) (root_once C B t low same)

-- some rounds of G, of m steps each, take as many steps as p t rounds of L, of n steps each. Where they pass through y as q t times the letters L,
-- the rounds of G in p M steps pass through it as q times those of L in M steps
pub root_passes : (G y L : List ℕ) (m n p q t rounds M : ℕ) → 1 ≤ p → 1 ≤ t → 1 ≤ M → m ∣ M → n ∣ M → G ≢ [] → n * (p * t) ≡ rounds * m
    → repeated rounds G ++ y ≡ y ++ repeated (q * t) L → repeated (p * (M / m)) G ++ y ≡ y ++ repeated (q * (M / n)) L
root_passes G y L m n p q t rounds M p_low t_low M_low first second other steps passes =
    let r = M / m in
    let s = M / n in
    let multiples = equal r s (div-mul_cancel m first) (div-mul_cancel n second) in
    let times : s * rounds ≡ t * (p * r) = eq_of_mul-eq-mul_left m (pos_of_dvd_of_pos first M_low) (s * rounds) (t * (p * r)) multiples in
    let low : 1 ≤ p * r = one-le-mul p_low (quotient_positive M m M_low first) in
    let some : repeated (p * r) G ≢ [] = λ none. absurd (omega (arith, length-repeated (p * r) G other, ap (λ (z : List ℕ). length z) none)) in
    passes_once (repeated (p * r) G) y (repeated (q * s) L) t some t_low
    (subst₂ (λ u v. u ++ y ≡ y ++ v) (regrouped G s rounds (p * r) times) (regrouped L s (q * t) (q * s) (turn s))
    (passes_times (repeated rounds G) y (repeated (q * t) L) passes s))
  where
    regrouped : (z : List ℕ) (s i j : ℕ) → s * i ≡ t * j → repeated s (repeated i z) ≡ repeated t (repeated j z)
    regrouped z s i j e = repeated_times s i z ∙ ap (λ k. repeated k z) e ∙ sym (repeated_times t j z)

    equal : (r s : ℕ) → r * m ≡ M → s * n ≡ M → m * (s * rounds) ≡ m * (t * (p * r))
    equal r s e g = before s ∙ ap (λ k. s * k) (sym steps) ∙ turned s ∙ ap (λ k. k * (p * t)) (g ∙ sym e) ∙ after r
      where
        before : (s : ℕ) → m * (s * rounds) ≡ s * (rounds * m)
        before s = omega arith

        turned : (s : ℕ) → s * (n * (p * t)) ≡ s * n * (p * t)
        turned s = omega arith

        after : (r : ℕ) → r * m * (p * t) ≡ m * (t * (p * r))
        after r = omega arith

    turn : (s : ℕ) → s * (q * t) ≡ t * (q * s)
    turn s = omega arith
