-- The kinds exclude one another, and each is of one period and one list of letters.
use Rattle.std.proofs.Common.{◌≡◌, ◌≢◌, ℕ, zero, suc, ◌≤◌, List, [], ◌∷◌, ◌++◌, length, refl, sym, ap, ◌∙◌, subst, arith, ℤ, pos, neg_ℤ, ◌*◌, subst₂, append-nil, zero-mul, ◌+ℤ◌}
use Rattle.std.proofs.lemmas.Int.{ints}
use Rattle.std.proofs.lemmas.List.{length-append}
use Rattle.ht_word.specs.Words.{◌·◌}
use Rattle.ht_word.specs.declared.shape.Shape.{Shape}
use Rattle.ht_word.specs.declared.word.Word.{Word}
use Rattle.ht_word.proofs.WordLaws.{after-append, after-nil, after_cancel, word_rest}
use Rattle.ht_num.proofs.NumberLaws.{once_least}
use Rattle.ht_pair.specs.Kinds.{IsCycle, Lengthens, IsAttractor, IsRepeller}
use Rattle.ht_pair.specs.Pairs.{IsPair, turned}
use Rattle.ht_pair.specs.Repeats.{repeated}
use Rattle.ht_pair.specs.Steps.{Carries}
use Rattle.ht_pair.specs.declared.row.Row.{Row}
use Rattle.ht_pair.proofs.CarriesLaws.{carries_single, carries_word, carries_extends, carries_none, carries_add, carries_back, carries_sum, carries_itself}
use Rattle.ht_pair.proofs.MovesLaws.{turned_pair}
use Rattle.ht_pair.proofs.TurnedLaws.{carries_of_turned, carries_to_turned}

-- ---- letters again and again

-- s times some letters are s letters at least
pub length-repeated : (s : ℕ) (G : List ℕ) → G ≢ [] → s ≤ length (repeated s G)
unfolding repeated
length-repeated zero G n = omega arith
length-repeated (suc s) G n = omega (arith, length-append (repeated s G) G, length-repeated s G n, some_length G n)
  where
    some_length : (G : List ℕ) → G ≢ [] → 1 ≤ length G
    some_length [] n = absurd (n refl)
    some_length (a ∷ G) n = omega arith

-- s times m steps lengthen x by G s times
pub carries_times : (shape : Shape) (p : List Row) → IsPair shape p → (m : ℕ) (x : Word) (G : List ℕ) → Carries shape p (pos m) x (x · G) → (s : ℕ) → Carries shape p (pos (s * m)) x (x · repeated s G)
unfolding repeated
carries_times shape p pair m x G c zero = subst₂ (λ j t. Carries shape p (pos j) x t) (sym (zero-mul m)) (sym (after-nil x)) (carries_itself shape p x c.word)
carries_times shape p pair m x G c (suc s) =
    let r = carries_times shape p pair m x G c s in
    let hG = word_rest shape x G (carries_word shape p pair (pos m) x (x · G) c) in
    carries_sum shape p pair (pos m) (pos (s * m)) (pos (suc s * m)) (omega (arith, ints)) x (x · G) (x · (repeated s G ++ G)) c
    (subst (λ t. Carries shape p (pos (s * m)) (x · G) t) (after-append x (repeated s G) G) (carries_extends shape p (pos (s * m)) x (x · repeated s G) G hG r))

-- the N-th power, which lengthens x by G, lengthens by G what a power carries x to
pub lengthened_there : (shape : Shape) (p : List Row) → IsPair shape p → (i : ℤ) (N : ℕ) (x t : Word) (G : List ℕ) → Carries shape p i x t → Carries shape p (pos N) x (x · G) → Carries shape p (pos N) t (t · G)
lengthened_there shape p pair i N x t G c grows =
    let hG = word_rest shape x G (carries_word shape p pair (pos N) x (x · G) grows) in
    carries_sum shape p pair (neg_ℤ i +ℤ pos N) i (pos N) (omega (arith, ints)) t (x · G) (t · G)
    (carries_add shape p pair (neg_ℤ i) (pos N) t x (x · G) (carries_back shape p pair i x t c) grows)
    (carries_extends shape p i x t G hG c)

-- no letters, however often, are no letters
nothing_repeated : (m : ℕ) → repeated m [] ≡ []
unfolding repeated
nothing_repeated zero = refl
nothing_repeated (suc m) = append-nil (repeated m []) ∙ nothing_repeated m

-- ---- the kinds exclude one another

-- no word is carried to itself by one power from 1 on, and lengthened by another
pub not_both : (shape : Shape) (p : List Row) → IsPair shape p → (x : Word) (j m : ℕ) (G : List ℕ) → 1 ≤ j → G ≢ [] → Carries shape p (pos j) x x → Carries shape p (pos m) x (x · G) → ⊥
not_both shape p pair x j m G positive some cycle grows =
    let round = carries_times shape p pair j x [] (subst (Carries shape p (pos j) x) (sym (after-nil x)) cycle) m in
    let long = carries_times shape p pair m x G grows j in
    let turn : j * m ≡ m * j = omega arith in
    let same : x · repeated m [] ≡ x · repeated j G = carries_single shape p pair (pos (m * j)) x (x · repeated m []) (x · repeated j G) round (subst (λ i. Carries shape p (pos i) x (x · repeated j G)) turn long) in
    omega (arith, length-repeated j G some, no_length (repeated m []) (nothing_repeated m), ap (λ (t : List ℕ). length t) (after_cancel x (repeated m []) (repeated j G) same))
  where
    no_length : (t : List ℕ) → t ≡ [] → length t ≡ 0
    no_length t e = ap (λ (z : List ℕ). length z) e

-- a cycle word is no attractor
pub cycle_no_attractor : (shape : Shape) (p : List Row) → IsPair shape p → (x : Word) (m n : ℕ) (by : List ℕ) → IsCycle shape p x m → IsAttractor shape p x n by → ⊥
cycle_no_attractor shape p pair x m n by c a = not_both shape p pair x m n by c.positive a.lengthens.0 c.holds a.lengthens.1

-- a cycle word is no repeller
pub cycle_no_repeller : (shape : Shape) (p : List Row) → IsPair shape p → (x : Word) (m n : ℕ) (by : List ℕ) → IsCycle shape p x m → IsRepeller shape p x n by → ⊥
cycle_no_repeller shape p pair x m n by c r = not_both shape (turned p) (turned_pair shape p pair) x m n by c.positive r.lengthens.0
    (carries_to_turned shape p (pos m) x x (carries_back shape p pair (pos m) x x c.holds))
    (carries_to_turned shape p (pos n) x (x · by) r.lengthens.1)

-- an attractor is no repeller
pub attractor_no_repeller : (shape : Shape) (p : List Row) → IsPair shape p → (x : Word) (m n : ℕ) (by off : List ℕ) → IsAttractor shape p x m by → IsRepeller shape p x n off → ⊥
attractor_no_repeller shape p pair x m n by off a r =
    let G = repeated n by in
    let O = repeated m off in
    let ahead = carries_times shape p pair m x by a.lengthens.1 n in
    let behind = carries_of_turned shape p (pos (m * n)) x (x · O) (carries_times shape (turned p) (turned_pair shape p pair) n x off (carries_to_turned shape p (pos n) x (x · off) r.lengthens.1) m) in
    let hG = word_rest shape x G (carries_word shape p pair (pos (n * m)) x (x · G) ahead) in
    let sum : pos (n * m) +ℤ neg_ℤ (pos (m * n)) ≡ pos 0 = omega (arith, ints) in
    let round : Carries shape p (pos 0) x ((x · O) · G) = carries_sum shape p pair (pos (n * m)) (neg_ℤ (pos (m * n))) (pos 0) sum x (x · G) ((x · O) · G) ahead (carries_extends shape p (neg_ℤ (pos (m * n))) x (x · O) G hG behind) in
    let same : x ≡ (x · O) · G = (carries_none shape p x ((x · O) · G) (a.lengthens.1).word).0 round in
    let none : O ++ G ≡ [] = after_cancel x (O ++ G) [] (sym (after-append x O G) ∙ sym same ∙ sym (after-nil x)) in
    nothing_left O G n (length-repeated n by a.lengthens.0) (r.first).positive none
  where
    nothing_left : (O G : List ℕ) (n : ℕ) → n ≤ length G → 1 ≤ n → O ++ G ≡ [] → ⊥
    nothing_left O G n l low e = omega (arith, length-append O G, ap (λ (t : List ℕ). length t) e)

-- ---- one period and one list of letters

-- a power lengthens a word by one list of letters
lengthens_once : (shape : Shape) (p : List Row) → IsPair shape p → (k : ℤ) (x : Word) (y z : List ℕ) → Lengthens shape p k x y → Lengthens shape p k x z → y ≡ z
lengthens_once shape p pair k x y z h g = after_cancel x y z (carries_single shape p pair k x (x · y) (x · z) h.1 g.1)

-- an attractor has one period and one list of letters
pub attractor_once : (shape : Shape) (p : List Row) → IsPair shape p → (x : Word) (m k : ℕ) (y z : List ℕ) → IsAttractor shape p x m y → IsAttractor shape p x k z → (m ≡ k) × (y ≡ z)
attractor_once shape p pair x m k y z h g =
    let same : m ≡ k = once_least m k h.first g.first in
    (same, lengthens_once shape p pair (pos m) x y z h.lengthens (subst (λ j. Lengthens shape p (pos j) x z) (sym same) g.lengthens))

-- so has a repeller
pub repeller_once : (shape : Shape) (p : List Row) → IsPair shape p → (x : Word) (m k : ℕ) (y z : List ℕ) → IsRepeller shape p x m y → IsRepeller shape p x k z → (m ≡ k) × (y ≡ z)
repeller_once shape p pair x m k y z h g =
    let same : m ≡ k = once_least m k h.first g.first in
    (same, lengthens_once shape p pair (neg_ℤ (pos m)) x y z h.lengthens (subst (λ j. Lengthens shape p (neg_ℤ (pos j)) x z) (sym same) g.lengthens))
