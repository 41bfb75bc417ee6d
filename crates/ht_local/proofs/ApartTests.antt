-- Words are apart just where, once they are sorted, none is a prefix of the next one.
use Rattle.std.proofs.Common.{◌≡◌, ◌↔◌, ℕ, zero, suc, ◌<◌, ◌+◌, ◌-◌, ◌⊎◌, inl, inr, Bool, ◌||◌, true, false, true≢false, Decides, IsPermutation, IsSorted, List, length, get_or, map, refl, sym, ap, ◌∙◌, subst, arith}
use Rattle.std.specs.List.{AllAdjacentBelow}
use Rattle.std.specs.Cmp.Lexicographic.{slice_cmp}
use Rattle.std.specs.Ordering.{is_lt, is_le, nat_cmp}
use Rattle.std.specs.declared.cmp.Ordering.{Ordering}
use Rattle.std.specs.declared.cmp.Ordering.TheVariants.{Less, Equal, Greater}
use Rattle.std.proofs.lemmas.Bool.Decides.{same_from_decides, Decides-like, Decides-or}
use Rattle.std.proofs.lemmas.List.Sorted.{IsPermutation-sym}
use Rattle.std.proofs.lemmas.Map.Keys.{apart_from_distinct, IsDistinct-from_apart, IsDistinct-IsPermutation}
use Rattle.std.proofs.lemmas.Map.Lookups.{exact_bytes, exact_pairs, exact_unsigned}
use Rattle.ht_word.specs.declared.word.Word.{Word}
use Rattle.ht_word.specs.Words.{IsUnder, word_cmp}
use Rattle.ht_word.proofs.ListLaws.{AllPairs-from_map, AllPairs-map}
use Rattle.ht_word.proofs.WordLaws.{under_refl, word_eq}
use Rattle.ht_pair.specs.Bases.{AreApart, IsPrefixFree}
use Rattle.ht_pair.specs.SortedItems.{head_cmp}
use Rattle.ht_pair.proofs.ConeOrder.{IsBefore, before_free, before_less, before_trans, parted}
use Rattle.ht_pair.proofs.RowSearch.{prefix_until}
use Rattle.ht_pair.proofs.Sorting.{prefix_free_permuted}
use Rattle.ht_local.proofs.BelowLaws.{decides_under, is_under}

-- ---- order

-- whether a word is under the other one
nested : Word → Word → Bool
nested u v = is_under u v || is_under v u

decides_nested : (u v : Word) → Decides (nested u v) (IsUnder u v ⊎ IsUnder v u)
unfolding nested
decides_nested u v = Decides-or (is_under u v) (is_under v u) (decides_under u v) (decides_under v u)

nested_back : (u v : Word) → nested u v ≡ nested v u
nested_back u v = same_from_decides (nested u v) (nested v u) (decides_nested u v) (Decides-like (nested v u) other other (decides_nested v u))
  where
    other : {P Q : Type 0} → P ⊎ Q → Q ⊎ P
    other (inl p) = inr p
    other (inr q) = inl q

apart_nested : (u v : Word) → AreApart u v → nested u v ≡ false
apart_nested u v apart = by (nested u v) refl
  where
    by : (b : Bool) → nested u v ≡ b → b ≡ false
    by true e = elim ((decides_nested u v).0 e) [ inl h ↦ absurd (apart.0 h) | inr h ↦ absurd (apart.1 h) ]
    by false e = refl

nested_apart : (u v : Word) → nested u v ≡ false → AreApart u v
nested_apart u v e = ((λ h. true≢false (sym ((decides_nested u v).1 (inl h)) ∙ e)), (λ h. true≢false (sym ((decides_nested u v).1 (inr h)) ∙ e)))

-- ---- neighbours

-- words of which neither comes before the other are equal
same_order : (u v : Word) → word_cmp u v ≡ Equal → u ≡ v
same_order u v e = let same = exact_pairs nat_cmp (slice_cmp nat_cmp) exact_unsigned exact_bytes (u.root, u.letters) (v.root, v.letters) e in word_eq (ap (λ t. t.0) same) (ap (λ t. t.1) same)

-- a word that isn't after another one, nor a prefix of it, is before it
before_next : (u v : Word) → is_lt (word_cmp v u) ≡ false → ¬ IsUnder v u → IsBefore u v
before_next u v sorted none = elim (parted u v) [
  | inl h ↦ elim h [ inl before ↦ before | inr under ↦ absurd (by (word_cmp v u) refl (prefix_until v u under) sorted) ]
  | inr h ↦ elim h [ inl before ↦ absurd (true≢false (sym (ap is_lt (before_less v u before)) ∙ sorted)) | inr under ↦ absurd (none under) ]
]
  where
    by : (o : Ordering) → word_cmp v u ≡ o → is_le o ≡ true → is_lt o ≡ false → ⊥
    by Less e le less = true≢false less
    by Equal e le less = none (subst (λ w. IsUnder w u) (sym (same_order v u e)) (under_refl u))
    by Greater e le less = true≢false (sym le)

-- sorted items of whose words none is a prefix of the next one
module _ {T : Type 0} (head : T → Word) (items : List T) (sorted : IsSorted (head_cmp head) items) (steps : AllAdjacentBelow (λ (a : T) (b : T). ¬ IsUnder (head b) (head a)) items (length items)) where
  -- they are in order of their cones
  before_neighbour : (i : ℕ) (d : T) → i + 1 < length items → IsBefore (head (get_or items i d)) (head (get_or items (i + 1) d))
  before_neighbour i d l = before_next _ _ (sorted i d (omega arith) l) (steps i d l)

  before_later : (n i : ℕ) (d : T) → i + suc n < length items → IsBefore (head (get_or items i d)) (head (get_or items (i + suc n) d))
  before_later zero i d l = before_neighbour i d l
  before_later (suc n) i d l =
      let last : (i + suc n) + 1 ≡ i + suc (suc n) = omega arith in
      let behind = before_neighbour (i + suc n) d (omega arith) in
      before_trans _ (head (get_or items (i + suc n) d)) _ (before_later n i d (omega arith)) (subst (λ j. IsBefore (head (get_or items (i + suc n) d)) (head (get_or items j d))) last behind)

  steps_free : IsPrefixFree (map head items)
  steps_free = before_free (map head items) (AllPairs-map head IsBefore items (λ i j d l m.
      let n = j - suc i in
      let is : i + suc n ≡ j = omega arith in
      subst (λ k. IsBefore (head (get_or items i d)) (head (get_or items k d))) is (before_later n i d (omega arith))))

-- the test of the items in order
pub apart_test : {T : Type 0} (head : T → Word) (W : List Word) (items : List T) → IsPermutation W (map head items) → IsSorted (head_cmp head) items
    → AllAdjacentBelow (λ (a : T) (b : T). ¬ IsUnder (head b) (head a)) items (length items) ↔ IsPrefixFree W
apart_test head W items h sorted = (
  (λ steps. prefix_free_permuted (map head items) W (IsPermutation-sym W (map head items) h) (steps_free head items sorted steps)),
  (λ free k d l. (AllPairs-from_map head AreApart items (prefix_free_permuted W (map head items) h free) k (k + 1) d (omega arith) l).1),
)
