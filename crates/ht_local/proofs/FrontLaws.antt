-- Fronts of letters by which they are turned into others: their number is told but for a multiple of that of all.
use Rattle.std.proofs.Common.{◌≡◌, ◌≢◌, ℕ, zero, suc, ◌+◌, ◌-◌, ◌*◌, ◌/◌, ◌%◌, ◌≤◌, ◌<◌, ◌⊎◌, inl, inr, List, [], ◌∷◌, ◌++◌, length, refl, sym, ap, ◌∙◌, subst, arith}
use Rattle.std.proofs.Math.Nat.{mod-lt, mod-eq_of_lt}
use Rattle.std.proofs.lemmas.List.{length-append}
use Rattle.ht_local.specs.Crossings.{AreRoundsApart, AreTurned}

-- what is left of a number, once multiples are taken off
rest_of : (n x s : ℕ) → s < n → (j k : ℕ) → x + j * n ≡ k * n + s → x < n + n → (x ≡ s) ⊎ (x ≡ n + s)
rest_of n x s less zero zero e l = inl (omega arith)
rest_of n x s less zero (suc zero) e l = inr (omega arith)
rest_of n x s less zero (suc (suc k)) e l = absurd (omega arith)
rest_of n x s less (suc j) zero e l = absurd (omega arith)
rest_of n x s less (suc j) (suc k) e l = rest_of n x s less j k (omega arith) l

rest_mod : (n x s : ℕ) → s < n → (j k : ℕ) → x + j * n ≡ k * n + s → x < n + n → x % n ≡ s
rest_mod n x s less j k e l = elim (rest_of n x s less j k e l) [
  | inl same ↦ ap (λ y. y % n) same ∙ mod-eq_of_lt less
  | inr more ↦ ap (λ y. y % n) more ∙ wraps n s less
]
  where
    wraps : (n s : ℕ) → s < n → (n + s) % n ≡ s
    wraps n s less = let one : n + s ≡ ((n + s) / n) * n + (n + s) % n = omega arith in
        let small = mod-lt (n + s) (let p : 1 ≤ n = omega arith in p) in
        by ((n + s) / n) ((n + s) % n) one small
      where
        by : (q r : ℕ) → n + s ≡ q * n + r → r < n → r ≡ s
        by zero r e l = absurd (omega arith)
        by (suc zero) r e l = omega arith
        by (suc (suc q)) r e l = absurd (omega arith)

pub difference_is : (n i j s : ℕ) → s < n → AreRoundsApart n i (s + j) → (i % n + n - j % n) % n ≡ s
difference_is n i j s less apart =
    let positive : 1 ≤ n = omega arith in
    let a = mod-lt i positive in
    let b = mod-lt j positive in
    let ai : i ≡ (i / n) * n + i % n = omega arith in
    let bj : j ≡ (j / n) * n + j % n = omega arith in
    elim apart [
      | inl r ↦ rest_mod n (i % n + n - j % n) s less (i / n) (r.0 + j / n + 1) (first r.0 (i / n) (j / n) (i % n) (j % n) a b ai bj r.1) (omega arith)
      | inr r ↦ rest_mod n (i % n + n - j % n) s less (r.0 + i / n) (j / n + 1) (second r.0 (i / n) (j / n) (i % n) (j % n) a b ai bj r.1) (omega arith)
    ]
  where
    first : (c q t a b : ℕ) → a < n → b < n → i ≡ q * n + a → j ≡ t * n + b → i ≡ c * n + (s + j) → (a + n - b) + q * n ≡ (c + t + 1) * n + s
    first c q t a b la lb ei ej e = omega arith

    second : (c q t a b : ℕ) → a < n → b < n → i ≡ q * n + a → j ≡ t * n + b → s + j ≡ c * n + i → (a + n - b) + (c + q) * n ≡ (t + 1) * n + s
    second c q t a b la lb ei ej e = omega arith

-- ---- fronts

-- two splits of letters at one place are the same
same_split : (x y z w : List ℕ) → x ++ y ≡ z ++ w → length x ≡ length z → (x ≡ z) × (y ≡ w)
same_split [] y [] w e l = (refl, e)
same_split [] y (b ∷ z) w e l = absurd (omega arith)
same_split (a ∷ x) y [] w e l = absurd (omega arith)
same_split (a ∷ x) y (b ∷ z) w e l = let head : a ≡ b = cc in let tail : x ++ y ≡ z ++ w = cc in let more = same_split x y z w tail (omega arith) in (grind (arith), more.1)

-- the two halves of the letters and of the others, where the front is as long as it is told to be
pub halves_are : (L G front back A B C D : List ℕ) (place count i j : ℕ) → AreTurned L G front back → AreRoundsApart (length L) i (length front + j) → count ≡ length L
    → ((s : ℕ) → s < count → AreRoundsApart count i (s + j) → place ≡ s) → L ≡ A ++ B → length A ≡ place → G ≡ C ++ D → length C ≡ length B → (A ≡ front) × (C ≡ B) × (D ≡ A)
halves_are L G front back A B C D place count i j t apart size told first at second as_long =
    let some = not_none back t.proper in
    let less : length front < count = omega (arith, size, ap (λ (z : List ℕ). length z) t.whole, length-append front back, some) in
    let is : place ≡ length front = told (length front) less (subst (λ n. AreRoundsApart n i (length front + j)) (sym size) apart) in
    let one = same_split A B front back (sym first ∙ t.whole) (at ∙ is) in
    let two = same_split C D back front (sym second ∙ t.turned) (as_long ∙ ap (λ (z : List ℕ). length z) one.1) in
    (one.0, two.0 ∙ sym one.1, two.1 ∙ sym one.0)
  where
    not_none : (z : List ℕ) → z ≢ [] → 0 < length z
    not_none [] n = absurd (n refl)
    not_none (a ∷ z) n = omega arith
