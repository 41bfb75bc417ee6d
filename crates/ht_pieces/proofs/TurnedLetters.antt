-- Letters again and again, and what may stand behind them: letters that pass through them are these some times and one of their fronts.
use Rattle.std.proofs.Common.{◌≡◌, ◌≢◌, ℕ, zero, suc, ◌+◌, ◌≤◌, ◌⊎◌, inl, inr, List, [], ◌∷◌, ◌++◌, length, refl, sym, ap, ◌∙◌, arith, append_assoc, append-nil}
use Rattle.std.proofs.lemmas.List.{append_cancel_left, length-append}
use Rattle.ht_word.proofs.WordLaws.{list_prefixes}
use Rattle.ht_pair.specs.Repeats.{repeated}
use Rattle.ht_pair.proofs.KindLaws.{length-repeated}
use Rattle.ht_types.proofs.AttractorLaws.{repeated_first, repeated_next, repeated_none}

pub repeated_once : (L : List ℕ) → repeated 1 L ≡ L
repeated_once L = repeated_next 0 L ∙ ap (λ t. t ++ L) (repeated_none L)

pub repeated_add : (s t : ℕ) (L : List ℕ) → repeated s L ++ repeated t L ≡ repeated (s + t) L
repeated_add zero t L = ap (λ z. z ++ repeated t L) (repeated_none L) ∙ ap (λ k. repeated k L) (plain t)
  where
    plain : (t : ℕ) → t ≡ 0 + t
    plain t = omega arith
repeated_add (suc s) t L =
    ap (λ z. z ++ repeated t L) (repeated_first s L) ∙ append_assoc L (repeated s L) (repeated t L) ∙ ap (λ z. L ++ z) (repeated_add s t L) ∙ sym (repeated_first (s + t) L) ∙ ap (λ k. repeated k L) (more s t)
  where
    more : (s t : ℕ) → suc (s + t) ≡ suc s + t
    more s t = omega arith

-- y is L some times, and a proper front of L
pub record IsTurn (L y : List ℕ) : Type 0 where
  pub times : ℕ
  pub front : List ℕ
  pub back : List ℕ
  pub is : y ≡ repeated times L ++ front
  pub whole : L ≡ front ++ back
  pub proper : back ≢ []

nil_or : (z : List ℕ) → (z ≡ []) ⊎ (z ≢ [])
nil_or [] = inl refl
nil_or (a ∷ z) = inr (λ e. cc)

-- with L some more times in front
more_turns : (L x y : List ℕ) (n : ℕ) → y ≡ repeated n L ++ x → IsTurn L x → IsTurn L y
more_turns L x y n e t = record {
  times = n + t.times;
  front = t.front;
  back = t.back;
  is = e ∙ ap (λ z. repeated n L ++ z) t.is ∙ sym (append_assoc (repeated n L) (repeated t.times L) t.front) ∙ ap (λ z. z ++ t.front) (repeated_add n t.times L);
  whole = t.whole;
  proper = t.proper;
}

none_turn : (L : List ℕ) → L ≢ [] → IsTurn L []
none_turn L some = record { times = 0; front = []; back = L; is = sym (ap (λ z. z ++ []) (repeated_none L)); whole = refl; proper = some }

-- a front of L turned
short_turn : (L y x : List ℕ) → L ≢ [] → L ≡ y ++ x → IsTurn L y
short_turn L y x some e = elim (nil_or x) [
  | inr more ↦ record { times = 0; front = y; back = x; is = sym (ap (λ z. z ++ y) (repeated_none L)); whole = e; proper = more }
  | inl none ↦ more_turns L [] y 1 (sym (append-nil y) ∙ ap (λ z. y ++ z) (sym none) ∙ sym e ∙ sym (repeated_once L) ∙ sym (append-nil (repeated 1 L))) (none_turn L some)
]

-- a front of L some times
front_turn : (L : List ℕ) → L ≢ [] → (n : ℕ) (y t : List ℕ) → y ++ t ≡ repeated n L → IsTurn L y
front_turn L some zero [] t e = none_turn L some
front_turn L some zero (a ∷ y) t e = let none : a ∷ (y ++ t) ≡ [] = e ∙ repeated_none L in cc
front_turn L some (suc n) y t e = elim (list_prefixes y L t (repeated n L) (e ∙ repeated_first n L)) [
  | inl h ↦ more_turns L h.0 y 1 (h.1 ∙ ap (λ z. z ++ h.0) (sym (repeated_once L))) (front_turn L some n h.0 t (sym h.2))
  | inr h ↦ short_turn L y h.0 some h.1
]

-- where L some times in front of y is y with other letters behind it
turn_within : (L G : List ℕ) → L ≢ [] → (n : ℕ) → 1 ≤ n → (most : ℕ) (y : List ℕ) → length y ≤ most → repeated n L ++ y ≡ y ++ G → IsTurn L y
turn_within L G some n positive zero [] l e = none_turn L some
turn_within L G some n positive zero (a ∷ y) l e = absurd (omega arith)
turn_within L G some n positive (suc most) y l e = elim (list_prefixes (repeated n L) y y G e) [
  | inl h ↦ front_turn L some n y h.0 (sym h.1)
  | inr h ↦ more_turns L h.0 y n h.1 (turn_within L G some n positive most h.0 (omega (arith, ap (λ (z : List ℕ). length z) h.1, length-append (repeated n L) h.0, length-repeated n L some)) (sym h.1 ∙ h.2))
]

pub turn_of : (L G : List ℕ) → L ≢ [] → (n : ℕ) → 1 ≤ n → (y : List ℕ) → repeated n L ++ y ≡ y ++ G → IsTurn L y
turn_of L G some n positive y e = turn_within L G some n positive (length y) y (omega arith) e

-- L in front of y is y with L turned behind it
pub turn_passes : (L y : List ℕ) (t : IsTurn L y) → L ++ y ≡ y ++ (t.back ++ t.front)
turn_passes L y t =
    let r = repeated t.times L in
    let round : L ++ r ≡ r ++ L = sym (repeated_first t.times L) ∙ repeated_next t.times L in
    let over : L ++ t.front ≡ t.front ++ (t.back ++ t.front) = ap (λ z. z ++ t.front) t.whole ∙ append_assoc t.front t.back t.front in
    ap (λ z. L ++ z) t.is ∙ sym (append_assoc L r t.front) ∙ ap (λ z. z ++ t.front) round ∙ append_assoc r L t.front ∙ ap (λ z. r ++ z) over ∙ sym (append_assoc r t.front (t.back ++ t.front)) ∙ ap (λ z. z ++ (t.back ++ t.front)) (sym t.is)

-- so what else stands behind it is L turned
pub turn_once : (L y G : List ℕ) (t : IsTurn L y) → L ++ y ≡ y ++ G → G ≡ t.back ++ t.front
turn_once L y G t e = append_cancel_left y G (t.back ++ t.front) (sym e ∙ turn_passes L y t)
