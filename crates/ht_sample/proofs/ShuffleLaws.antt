-- Shuffled lists are the lists in another order.
use Rattle.std.proofs.Common.{◌≡◌, ℕ, zero, suc, ◌+◌, ◌-◌, ◌/◌, ◌^◌, ◌≤◌, ◌<◌, List, length, refl, ap, ◌∙◌, arith, All}
use Rattle.std.proofs.lemmas.List.Sorted.{IsPermutation-refl, IsPermutation-swap, IsPermutation-trans, length_permutation}
use Rattle.std.proofs.lemmas.List.Elements.{All-from_get_or}
use Rattle.std.proofs.lemmas.List.FromFn.{length-range_with_len, get_or-range_with_len}
use Rattle.std.specs.List.{swap, range_with_len}
use Rattle.std.specs.List.Sorted.{IsPermutation}
use Rattle.ht_sample.specs.Draws.{next_state, drawn}
use Rattle.ht_sample.specs.Shuffles.{places_to, shuffled}
use Rattle.std.proofs.Math.Nat.{mod-lt}

-- a drawn number is below its bound
pub drawn_below : (s k : ℕ) → 0 < k → drawn s k < k
unfolding drawn
drawn_below s k l = mod-lt (next_state s / 2 ^ 33) l

pub shuffled_order : (i s : ℕ) (list : List ℕ) → i < length list → IsPermutation list (shuffled i s list)
unfolding shuffled
shuffled_order zero s list l = IsPermutation-refl list
shuffled_order (suc i) s list l =
    let j = drawn s (suc i + 1) in
    let below : j < suc i + 1 = drawn_below s (suc i + 1) (omega arith) in
    let once = IsPermutation-swap list (swap list (suc i) j) (suc i) j l (omega arith) refl in
    IsPermutation-trans list (swap list (suc i) j) (shuffled i (next_state s) (swap list (suc i) j)) once
    (shuffled_order i (next_state s) (swap list (suc i) j) (omega (arith, length_permutation list (swap list (suc i) j) once)))

-- one exchange more, and none
pub shuffled_back : (place s : ℕ) (list new : List ℕ) (other t : ℕ) → 0 < place → other ≡ drawn s (place + 1) → t ≡ next_state s → new ≡ swap list place other → shuffled (place - 1) t new ≡ shuffled place s list
unfolding shuffled
shuffled_back zero s list new other t l e f g = absurd (omega arith)
shuffled_back (suc i) s list new other t l e f g =
    let before : suc i - 1 ≡ i = omega arith in
    ap (λ j. shuffled j t new) before ∙ ap (λ j. shuffled i j new) f ∙ ap (λ (X : List ℕ). shuffled i (next_state s) X) (g ∙ ap (λ j. swap list (suc i) j) e)

pub shuffled_end : (place s : ℕ) (list : List ℕ) → place ≤ 0 → shuffled place s list ≡ list
unfolding shuffled
shuffled_end zero s list l = refl
shuffled_end (suc place) s list l = absurd (omega arith)

-- ---- all places in order

pub length-places : (n : ℕ) → length (places_to n) ≡ n
unfolding places_to
length-places n = length-range_with_len 0 n

pub places_below : (n : ℕ) → All (λ place. place < n) (places_to n)
unfolding places_to
places_below n = All-from_get_or (λ place. place < n) (range_with_len 0 n) 0 (λ i l. omega (arith, length-range_with_len 0 n, get_or-range_with_len 0 n i 0 (omega (arith, length-range_with_len 0 n))))
