-- What sorting leaves of bases and pairs.
use Rattle.std.proofs.Common.{◌≡◌, ◌↔◌, ℕ, suc, ◌<◌, ◌+◌, inl, inr, Bool, true, false, true≢false, IsTrue, is_lt, List, ◌∷◌, ◌++◌, length, get_or, take, drop, map, refl, sym, ap, ◌∙◌, arith, All, Contains, Less, IsPermutation, IsSorted, length-take}
use Rattle.std.specs.Ordering.{is_eq, eq_by_cmp}
use Rattle.std.proofs.lemmas.Cmp.{eq_by_cmp_equiv}
use Rattle.std.proofs.lemmas.List.Elements.{All-map, Contains-get_or}
use Rattle.std.proofs.Math.Seq.{split_at}
use Rattle.std.proofs.lemmas.List.Sorted.{ranks_by, sorted_far, All-permutation, Contains-permutation, IsPermutation-sym, IsPermutation-map, IsPermutation-trans}
use Rattle.std.proofs.lemmas.Map.Keys.{apart_from_distinct, IsDistinct-from_apart, IsDistinct-IsPermutation}
use Rattle.ht_word.specs.declared.word.Word.{Word}
use Rattle.ht_word.specs.declared.shape.Shape.{Shape}
use Rattle.ht_word.specs.Words.{word_cmp, IsWordOf, IsAscending}
use Rattle.ht_word.proofs.WordLaws.{word_cmp_total}
use Rattle.ht_word.proofs.ListLaws.{AllPairs-map, AllPairs-from_map}
use Rattle.ht_pair.specs.declared.row.Row.{Row}
use Rattle.ht_pair.specs.declared.side.Side.{Side}
use Rattle.ht_pair.specs.declared.side.Side.TheVariants.{From, To}
use Rattle.ht_pair.specs.Bases.{AreApart, IsPrefixFree, longest, IsBasis}
use Rattle.ht_pair.specs.Pairs.{IsPair}
use Rattle.ht_pair.specs.Sides.{word_on, words_on, IsSortedPair}
use Rattle.ht_pair.specs.SortedItems.{head_cmp, AreSorted}
use Rattle.ht_pair.specs.RowsFaults.{IsRowOf, AreRowsOf, IsFirstForeign, IsFromFault, IsToFault}
use Rattle.ht_pair.proofs.BasisLaws.{some_at, prefix_free_same, basis_holds, basis_from}
use Rattle.ht_pair.proofs.ConeOrder.{before_less, apart_before}

-- whether two words are equal
abbrev equal : Word → Word → Bool
equal = eq_by_cmp word_cmp

-- words that are apart are unequal
apart_unequal : (u v : Word) → AreApart u v → equal u v ≡ false
apart_unequal u v apart = elim (apart_before u v apart) [
  | inl b ↦ ap is_eq (before_less u v b)
  | inr b ↦ (eq_by_cmp_equiv word_cmp_total).symm u v ∙ ap is_eq (before_less v u b)
]

-- a prefix-free list stays so in another order
pub prefix_free_permuted : (X Y : List Word) → IsPermutation X Y → IsPrefixFree X → IsPrefixFree Y
prefix_free_permuted X Y h free =
    let laws = eq_by_cmp_equiv word_cmp_total in
    let distinct = IsDistinct-IsPermutation equal laws.symm X Y h (IsDistinct-from_apart equal X (λ i j d l m. apart_unequal _ _ (free i j d l m))) in
    let listed : (k : ℕ) (d : Word) → k < length Y → Contains X (get_or Y k d) = λ k d l. Contains-permutation Y X (get_or Y k d) (IsPermutation-sym X Y h) (Contains-get_or Y k d l) in
    λ i j d l m.
    let unlike : ¬ (get_or Y i d ≡ get_or Y j d) = λ e. true≢false (sym (laws.refl (get_or Y i d)) ∙ ap (equal (get_or Y i d)) e ∙ apart_from_distinct equal Y i j d distinct l m) in (
      λ k. unlike (prefix_free_same X free _ _ (listed i d (omega arith)) (listed j d m) k),
      λ k. unlike (sym (prefix_free_same X free _ _ (listed j d m) (listed i d (omega arith)) k)),
    )

-- and so does a basis
basis_permuted : (shape : Shape) (X Y : List Word) → IsPermutation X Y → IsBasis shape X → IsBasis shape Y
basis_permuted shape X Y h b = basis_from shape Y (All-permutation (IsWordOf shape) X Y h b.words) (prefix_free_permuted X Y h b.prefix_free) (longest X)
    (λ u word long. let s = basis_holds shape X b u word long in some_at Y s.above u (Contains-permutation X Y s.above h s.listed) s.under)

-- of two words that are apart the one that isn't after the other is before it
apart_sorted : (u v : Word) → AreApart u v → is_lt (word_cmp v u) ≡ false → word_cmp u v ≡ Less
apart_sorted u v apart no_less = elim (apart_before u v apart) [ inl b ↦ before_less u v b | inr b ↦ absurd (true≢false (sym (ap is_lt (before_less v u b)) ∙ no_less)) ]

-- sorted items whose heads are apart are in ascending order
sorted_ascending : {T : Type 0} (head : T → Word) (items : List T) → IsPrefixFree (map head items) → IsSorted (head_cmp head) items → IsAscending (map head items)
sorted_ascending head items free sorted =
    let apart = AllPairs-from_map head AreApart items free in
    AllPairs-map head (λ u v. word_cmp u v ≡ Less) items
    (λ i j d l m. apart_sorted _ _ (apart i j d l m) (sorted_far (λ a b. is_lt (head_cmp head a b)) (ranks_by word_cmp_total head) items sorted i j d (omega arith) m))

-- items in another order have a basis of heads too
heads_permuted : {T : Type 0} (shape : Shape) (head : T → Word) (items moved : List T) → IsPermutation items moved → IsBasis shape (map head items) → IsBasis shape (map head moved)
heads_permuted shape head items moved h = basis_permuted shape (map head items) (map head moved) (IsPermutation-map head items moved h)

-- and a pair stays one
pub pair_permuted : (shape : Shape) (rows moved : List Row) → IsPermutation rows moved → IsPair shape rows → IsPair shape moved
pair_permuted shape rows moved h pair = record { from = heads_permuted shape (word_on From) rows moved h pair.from; to = heads_permuted shape (word_on To) rows moved h pair.to }

-- heads that are a basis are one in ascending order once the items are sorted
pub heads_sorted : {T : Type 0} (shape : Shape) (head : T → Word) (items sorted : List T) → IsPermutation items sorted → IsSorted (head_cmp head) sorted → IsBasis shape (map head items) → IsBasis shape (map head sorted) × IsAscending (map head sorted)
heads_sorted shape head items sorted h order b = let c = heads_permuted shape head items sorted h b in (c, sorted_ascending head sorted c.prefix_free order)

-- the sorted rows of a pair are a pair in ascending order
pub sorted_pair_is : (shape : Shape) (rows sorted : List Row) → IsPair shape rows → IsPermutation rows sorted → IsSorted (head_cmp (word_on From)) sorted → IsSortedPair shape rows sorted
sorted_pair_is shape rows sorted pair h order = record {
  permuted = h;
  pair = pair_permuted shape rows sorted h pair;
  ascending = (heads_sorted shape (word_on From) rows sorted h order pair.from).1;
}

-- words of a side of rows of the shape are of the shape
pub rows_words : (shape : Shape) (side : Side) (rows : List Row) → AreRowsOf shape rows → All (IsWordOf shape) (words_on side rows)
rows_words shape From rows h = All-map (IsWordOf shape) (word_on From) rows (λ k d l. (h k d l).from)
rows_words shape To rows h = All-map (IsWordOf shape) (word_on To) rows (λ k d l. (h k d l).to)

-- heads of items in another order are of the shape
pub heads_of_shape : {T : Type 0} (shape : Shape) (head : T → Word) (items sorted : List T) → IsPermutation items sorted → All (IsWordOf shape) (map head items) → All (IsWordOf shape) (map head sorted)
heads_of_shape shape head items sorted h words = All-permutation (IsWordOf shape) (map head items) (map head sorted) (IsPermutation-map head items sorted h) words

-- the test of sorted items decides whether their heads are a basis
pub heads_tested : {T : Type 0} (shape : Shape) (head : T → Word) (items sorted : List T) (test : Bool) → IsPermutation items sorted → IsSorted (head_cmp head) sorted
    → IsTrue test ↔ (IsBasis shape (map head sorted) × IsAscending (map head sorted)) → AreSorted shape head items sorted test
heads_tested shape head items sorted test h order told = record {
  permuted = h;
  basis = (λ t. heads_permuted shape head sorted items (IsPermutation-sym items sorted h) (told.0 t).0, λ b. told.1 (heads_sorted shape head items sorted h order b));
  ascending = λ t. (told.0 t).1;
}

-- rows sorted by `to`, then by `from`, with both sides a basis
pub both_sorted : (shape : Shape) (rows by_to by_from : List Row) → AreSorted shape (word_on To) rows by_to true → AreSorted shape (word_on From) by_to by_from true → IsSortedPair shape rows by_from
both_sorted shape rows by_to by_from to from =
    let h = IsPermutation-trans rows by_to by_from to.permuted from.permuted in
    record {
      permuted = h;
      pair = record {
        from = heads_permuted shape (word_on From) by_to by_from from.permuted (from.basis.0 refl);
        to = heads_permuted shape (word_on To) rows by_from h (to.basis.0 refl);
      };
      ascending = from.ascending refl;
    }

-- the rows in another order are of the shape
pub rows_permuted : (shape : Shape) (rows moved : List Row) → IsPermutation rows moved → AreRowsOf shape rows → AreRowsOf shape moved
rows_permuted shape rows moved h all = All-permutation (IsRowOf shape) rows moved h all

-- the `from` words of the rows in order of `to` tell of the rows
pub from_fault : (shape : Shape) (rows by_to by_from : List Row) → AreRowsOf shape rows → IsPermutation rows by_to → AreSorted shape (word_on From) by_to by_from false → IsFromFault shape rows
from_fault shape rows by_to by_from all h from = record {
  of_shape = all;
  from = λ b. true≢false (sym (from.basis.1 (heads_permuted shape (word_on From) rows by_to h b)));
}

pub to_fault : (shape : Shape) (rows by_to by_from : List Row) → AreRowsOf shape rows → AreSorted shape (word_on To) rows by_to false → AreSorted shape (word_on From) by_to by_from true → IsToFault shape rows
to_fault shape rows by_to by_from all to from = record {
  of_shape = all;
  from = heads_permuted shape (word_on From) by_to rows (IsPermutation-sym rows by_to to.permuted) (from.basis.0 refl);
  to = λ b. true≢false (sym (to.basis.1 b));
}

-- the rows before are of the shape, and this one isn't
pub first_foreign_at : (shape : Shape) (rows : List Row) (place : ℕ) (row : Row) → place < length rows → row ≡ get_or rows place row → AreRowsOf shape (take place rows)
    → ¬ IsRowOf shape row → IsFirstForeign shape rows (place + 1)
first_foreign_at shape rows place row l is before foreign = record {
  before = take place rows;
  row = row;
  behind = drop (suc place) rows;
  are = split_at rows place row l ∙ ap (λ (t : Row). take place rows ++ t ∷ drop (suc place) rows) (sym is);
  of_shape = before;
  foreign = foreign;
  place_is = omega (arith, length-take {A = Row});
}
