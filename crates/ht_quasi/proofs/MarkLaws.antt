-- Marks beside the words of a basis.
use Rattle.std.proofs.Common.{◌≡◌, ℕ, ◌+◌, ◌<◌, ◌↔◌, inl, inr, ◌⊎◌, Bool, true, List, [], ◌∷◌, ◌++◌, length, get_or, set, take, map, sym, ap, ◌∙◌, subst, arith, Contains, Some, slice_get, get_or-set_other, add-one}
use Rattle.std.proofs.lemmas.List.{get_or_default, map-append}
use Rattle.std.proofs.lemmas.List.Elements.{Contains-append_left, Contains-append_right}
use Rattle.std.proofs.lemmas.Option.{slice_get_within, get_or_from_slice_get}
use Rattle.std.proofs.lemmas.Grind.{get_or-set_at}
use Rattle.std.proofs.Math.ListN.{length-set}
use Rattle.std.proofs.Math.Seq.{take-suc}
use Rattle.ht_word.specs.declared.word.Word.{Word}
use Rattle.ht_word.specs.Words.{IsUnder, IsUnderSome}
use Rattle.ht_word.proofs.WordLaws.{under_refl, under_same}
use Rattle.ht_word.proofs.ListLaws.{trichotomy, Contains-here}
use Rattle.ht_pair.specs.declared.row.Row.{Row}
use Rattle.ht_pair.specs.declared.side.Side.{Side}
use Rattle.ht_pair.specs.Bases.{IsPrefixFree}
use Rattle.ht_pair.specs.HeldBases.{IsPlaceAbove}
use Rattle.ht_pair.specs.Sides.{word_on, words_on}
use Rattle.ht_pair.proofs.BasisLaws.{prefix_free_place, prefix_free_same, some_at}
use Rattle.ht_pair.proofs.Sequences.{in_front_or}
use Rattle.ht_quasi.specs.Marks.{AreMarks}

-- the word at a place is in the list
listed_at : (X : List Word) (place : ℕ) (x : Word) → place < length X → Contains X (get_or X place x)
listed_at X place x l = (place, l, get_or_default X place (get_or X place x) x l)

-- another word's mark doesn't change
other_mark : (W : List Word) (x word : Word) → ¬ (x ≡ word) → Contains W x ↔ Contains (W ++ word ∷ []) x
other_mark W x word other = (
  λ c. Contains-append_left W (word ∷ []) x c,
  λ c. elim (in_front_or W word x c) [ inl k ↦ k | inr e ↦ absurd (other (sym e)) ],
)

-- where the word is none of the basis no mark changes
unmarked : (W X : List Word) (word : Word) (marks : List Bool) → ((place : ℕ) (x : Word) → place < length X → ¬ (get_or X place x ≡ word)) → AreMarks W X marks → AreMarks (W ++ word ∷ []) X marks
unmarked W X word marks other h = record {
  as_many = h.as_many;
  each = λ place x m l. let was = h.each place x m l in let same = other_mark W (get_or X place x) word (other place x l) in (λ t. same.0 (was.0 t), λ c. was.1 (same.1 c));
}

-- so it is where no word of the basis is above the word
pub unmarked_none : (X : List Word) (word : Word) (marks : List Bool) → ¬ IsUnderSome word X → (W : List Word) → AreMarks W X marks → AreMarks (W ++ word ∷ []) X marks
unmarked_none X word marks none W = unmarked W X word marks (λ place x l e. none (some_at X (get_or X place x) word (listed_at X place x l) (subst (IsUnder word) (sym e) (under_refl word))))

-- or that word has less letters
pub unmarked_longer : (X : List Word) (word above : Word) (marks : List Bool) (place : ℕ) → IsPrefixFree X → (h : IsPlaceAbove X word place) → slice_get X place ≡ Some above → ¬ (length above.letters ≡ length word.letters)
    → (W : List Word) → AreMarks W X marks → AreMarks (W ++ word ∷ []) X marks
unmarked_longer X word above marks place free h read longer W = unmarked W X word marks (λ k x l e.
    let listed : Contains X h.word = subst (Contains X) (get_or_from_slice_get X place h.word word h.here) (listed_at X place word (slice_get_within X place h.word h.here)) in
    let same : get_or X k x ≡ h.word = prefix_free_same X free (get_or X k x) h.word (listed_at X k x l) listed (subst (λ t. IsUnder t h.word) (sym e) h.above) in
    let one : above ≡ h.word = sym (get_or_from_slice_get X place above word read) ∙ get_or_from_slice_get X place h.word word h.here in
    longer (ap (λ (t : Word). length t.letters) (one ∙ sym same ∙ e)))

-- else that word is the word, and it is marked
pub marked : (X : List Word) (word above : Word) (marks : List Bool) (place : ℕ) → IsPrefixFree X → (h : IsPlaceAbove X word place) → slice_get X place ≡ Some above → length above.letters ≡ length word.letters
    → (W : List Word) → AreMarks W X marks → AreMarks (W ++ word ∷ []) X (set marks place true)
unfolding listed_at
marked X word above marks place free h read long W was = record {
  as_many = length-set marks place true ∙ was.as_many;
  each = λ k x m l. elim (place_or k) [
    | inr e ↦ (
        let inside : k < length marks = omega (arith, was.as_many) in
        (λ t. subst (Contains (W ++ word ∷ [])) (sym (here k x e)) (Contains-append_right W (word ∷ []) word (Contains-here word [])), λ c. set_here k m e inside))
    | inl other ↦ (
        let old = was.each k x m l in
        let same = other_mark W (get_or X k x) word (λ e. other (elsewhere k x l e)) in
        let kept : get_or (set marks place true) k m ≡ get_or marks k m = set_elsewhere k m other in
        (λ t. same.0 (old.0 (sym kept ∙ t)), λ c. kept ∙ old.1 (same.1 c)))
  ];
}
  where
    place_or : (k : ℕ) → ¬ (k ≡ place) ⊎ (k ≡ place)
    place_or k = elim (trichotomy k place) [ inl h ↦ inl (λ e. elim h [ inl l ↦ absurd (omega arith) | inr l ↦ absurd (omega arith) ]) | inr e ↦ inr e ]

    is : word ≡ above
    is = under_same (subst (IsUnder word) (sym (get_or_from_slice_get X place h.word word h.here) ∙ get_or_from_slice_get X place above word read) h.above) (omega (arith, long))

    here : (k : ℕ) (x : Word) → k ≡ place → get_or X k x ≡ word
    here k x e = ap (λ j. get_or X j x) e ∙ get_or_from_slice_get X place above x read ∙ sym is

    set_here : (k : ℕ) (m : Bool) → k ≡ place → k < length marks → get_or (set marks place true) k m ≡ true
    set_here k m e inside = get_or-set_at marks place k true m e (omega (arith, e))

    set_elsewhere : (k : ℕ) (m : Bool) → ¬ (k ≡ place) → get_or (set marks place true) k m ≡ get_or marks k m
    set_elsewhere k m other = get_or-set_other marks place k true m other

    elsewhere : (k : ℕ) (x : Word) → k < length X → get_or X k x ≡ word → k ≡ place
    elsewhere k x l e = prefix_free_place X free (get_or X k x) above (listed_at X k x l) (place, slice_get_within X place above read, get_or_from_slice_get X place above above read)
        (subst (IsUnder (get_or X k x)) is (subst (λ t. IsUnder t word) (sym e) (under_refl word)))

-- the words of one more row
words_more : (side : Side) (rows : List Row) (place : ℕ) (row : Row) → place < length rows → row ≡ get_or rows place row → words_on side (take place rows) ++ word_on side row ∷ [] ≡ words_on side (take (place + 1) rows)
words_more side rows place row within is =
    sym (map-append (word_on side) (take place rows) (row ∷ [])) ∙ ap (λ (t : Row). map (word_on side) (take place rows ++ t ∷ [])) is
    ∙ ap (λ (t : List Row). map (word_on side) t) (sym (take-suc rows place row within) ∙ ap (λ k. take k rows) (sym (add-one place)))

-- the marks after one more row
pub marks_more : (side : Side) (rows : List Row) (place : ℕ) (row : Row) (word : Word) (X : List Word) (marks : List Bool) → place < length rows → row ≡ get_or rows place row → word ≡ word_on side row
    → AreMarks (words_on side (take place rows) ++ word ∷ []) X marks → AreMarks (words_on side (take (place + 1) rows)) X marks
marks_more side rows place row word X marks within is word_is h =
    subst (λ W. AreMarks W X marks) (ap (λ w. words_on side (take place rows) ++ w ∷ []) word_is ∙ words_more side rows place row within is) h
