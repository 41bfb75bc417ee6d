-- The words of a basis, read in the order of a sample: the same words in another order.
use Rattle.std.proofs.Common.{◌≡◌, ℕ, ◌<◌, List, length, refl, sym, ◌∙◌, subst, arith, All}
use Rattle.std.proofs.lemmas.List.FromFn.{fill_by_all}
use Rattle.std.proofs.lemmas.List.Sorted.{IsPermutation-map, IsPermutation-sym, Contains-permutation, All-permutation, length_permutation}
use Rattle.std.specs.List.Sorted.{IsPermutation}
use Rattle.ht_word.specs.Words.{root_word}
use Rattle.ht_word.specs.declared.shape.Shape.{Shape}
use Rattle.ht_word.specs.declared.word.Word.{Word}
use Rattle.ht_sample.specs.Samples.{word_at, read_at, IsSampleBasis}
use Rattle.ht_sample.specs.Shuffles.{places_to, shuffled}
use Rattle.ht_sample.proofs.OpenedLaws.{basis_permuted, longest_listed}
use Rattle.ht_sample.proofs.ShuffleLaws.{length-places, places_below, shuffled_order}

-- the order has each place once
places_order : (s : ℕ) → IsPermutation (places_to 4000) (shuffled 3999 s (places_to 4000))
places_order s = shuffled_order 3999 s (places_to 4000) (omega (arith, length-places 4000))

-- each is a place of 4,000 words
pub order_within : (s : ℕ) (X : List Word) → length X ≡ 4000 → All (λ place. place < length X) (shuffled 3999 s (places_to 4000))
order_within s X size =
    let order = shuffled 3999 s (places_to 4000) in
    subst (λ k. All (λ place. place < k) order) (sym size) (All-permutation (λ place. place < 4000) (places_to 4000) order (places_order s) (places_below 4000))

-- the words of X, read at all places in turn, are X
read_all : (n : ℕ) (X : List Word) → length X ≡ n → X ≡ read_at X (places_to n)
unfolding places_to
read_all n X e = fill_by_all (word_at X) X n (root_word 1) e (λ k l. refl)

-- and read in the order they are a basis too
pub images_sample : (shape : Shape) (s : ℕ) (X : List Word) → IsSampleBasis shape X → IsSampleBasis shape (read_at X (shuffled 3999 s (places_to 4000)))
images_sample shape s X h =
    let order = shuffled 3999 s (places_to 4000) in
    let Y = read_at X order in
    let moved : IsPermutation X Y = subst (λ (Z : List Word). IsPermutation Z Y) (sym (read_all 4000 X h.size)) (IsPermutation-map (word_at X) (places_to 4000) order (places_order s)) in
    record {
      basis = basis_permuted shape X Y moved h.basis;
      size = length_permutation X Y moved ∙ h.size;
      short = omega (arith, h.short, longest_listed X Y (λ w c. Contains-permutation Y X w (IsPermutation-sym X Y moved) c));
    }
