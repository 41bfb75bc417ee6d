-- Images of words under powers: they tell where words go, and a word has one.
use Rattle.std.proofs.Common.{◌≡◌, ℕ, ◌≤◌, List, [], ◌∷◌, ◌++◌, length, refl, sym, ap, ◌∙◌, subst, arith, Contains, ℤ, All, map}
use Rattle.std.proofs.lemmas.List.Elements.{All-contains}
use Rattle.std.specs.Cmp.Lexicographic.{slice_cmp}
use Rattle.std.specs.Ordering.{nat_cmp}
use Rattle.std.specs.declared.cmp.Ordering.TheVariants.{Less}
use Rattle.ht_word.specs.Words.{IsLetters, IsWordOf, ◌·◌, child, root_word, IsUnder, IsUnderSome}
use Rattle.ht_word.specs.declared.shape.Shape.{Shape}
use Rattle.ht_word.specs.declared.word.Word.{Word}
use Rattle.ht_word.proofs.ListLaws.{Contains-here, Contains-map, contained_in_map, ascending_same}
use Rattle.ht_word.proofs.WordLaws.{after-append, after_cancel, under_after, under_trans, length-after, under_length, word_after, word_rest, word_cmp_once}
use Rattle.ht_pair.specs.Bases.{IsPrefixFree, longest, Covers}
use Rattle.ht_pair.specs.Images.{Entry, words_behind, IsMerged, IsImage}
use Rattle.ht_pair.specs.Pairs.{from_words, IsPair}
use Rattle.ht_pair.specs.Steps.{Carries}
use Rattle.ht_pair.specs.declared.row.Row.{Row}
use Rattle.ht_pair.proofs.BasisLaws.{some_at, covers_long}
use Rattle.ht_pair.proofs.CarriesLaws.{carries_single, carries_extends}
use Rattle.ht_pair.proofs.ReducedLaws.{MovesAs, IsReducedOn, same_rows}

-- the power carries the word of each entry to that of the entry
pub entry_carried : (shape : Shape) (p : List Row) (k : ℤ) (u : Word) (L : List Entry) (e : Entry) → IsImage shape p k u L → Contains L e → Carries shape p k (u · e.letters) e.word
entry_carried shape p k u L e image c = All-contains (λ (d : Entry). Carries shape p k (u · d.letters) d.word) L e image.carries c

-- each long enough word behind u is behind the letters of some entry
pub image_covers : (shape : Shape) (p : List Row) (k : ℤ) (u : Word) (L : List Entry) (z : List ℕ) → IsImage shape p k u L → IsWordOf shape u → IsLetters shape z → longest (words_behind u L) ≤ length ((u · z).letters) → IsUnderSome (u · z) (words_behind u L)
image_covers shape p k u L z image word letters l =
    (covers_long shape (words_behind u L) (u ∷ []) image.covers (u · z) (word_after shape u z word letters) (omega (arith, l, length-after u z))).1
    (some_at (u ∷ []) u (u · z) (Contains-here u []) (under_after u z))

-- ---- a word has one image

-- the row of an entry
unfoldable pub row_behind : Word → Entry → Row
row_behind u e = record { from = u · e.letters; to = e.word }

-- the rows of the entries
abbrev pub rows_behind : Word → List Entry → List Row
rows_behind u L = map (row_behind u) L

-- their `from` words are the words behind u
pub from_words-behind : (u : Word) (L : List Entry) → from_words (rows_behind u L) ≡ words_behind u L
unfolding row_behind
from_words-behind u [] = refl
from_words-behind u (e ∷ L) = ap (λ (W : List Word). (u · e.letters) ∷ W) (from_words-behind u L)

-- entries with the same row are the same
same_entry : (u : Word) (d e : Entry) → row_behind u d ≡ row_behind u e → d ≡ e
unfolding row_behind
same_entry u d e is =
    let letters : d.letters ≡ e.letters = after_cancel u d.letters e.letters (ap (λ (t : Row). t.from) is) in
    let word : d.word ≡ e.word = ap (λ (t : Row). t.to) is in
    λ i. record { letters = letters i; word = word i }

-- an entry whose row is listed is listed
pub entry_listed : (u : Word) (L : List Entry) (e : Entry) → Contains (rows_behind u L) (row_behind u e) → Contains L e
entry_listed u L e c = let g = contained_in_map (row_behind u) L (row_behind u e) c in subst (Contains L) (same_entry u g.0 e g.2) g.1

-- the rows of merged entries that cover u are reduced on the words under u
pub entries_reduced : (shape : Shape) (u : Word) (L : List Entry) → Covers shape (words_behind u L) (u ∷ []) → IsMerged shape L → IsReducedOn shape (λ w. IsUnder w u) (rows_behind u L)
unfolding row_behind
entries_reduced shape u L covers merged = record {
  words = subst (All (IsWordOf shape)) (sym (from_words-behind u L)) covers.words;
  prefix_free = subst IsPrefixFree (sym (from_words-behind u L)) covers.prefix_free;
  inside = λ row c. let g = contained_in_map (row_behind u) L row c in record { rest = g.0.letters; is = ap (λ (t : Row). t.from) (sym g.2) };
  deeper = λ w z d. under_trans (under_after w z) d;
  holds = λ w h d l. subst (IsUnderSome w) (sym (from_words-behind u L))
      ((covers_long shape (words_behind u L) (u ∷ []) covers w h (omega (arith, l, under_length d, ap (λ (W : List Word). longest W) (from_words-behind u L)))).1
      (some_at (u ∷ []) u w (Contains-here u []) d));
  reduced = λ w v d rows. merged d.rest v (λ a low high. entry_listed u L (record { letters = d.rest ++ a ∷ []; word = child v a })
      (subst (λ t. Contains (rows_behind u L) (record { from = t; to = child v a })) (ap (λ t. child t a) d.is ∙ after-append u d.rest (a ∷ [])) (rows a low high)));
}

-- the power carries the words of a row of an image
row_carried : (shape : Shape) (p : List Row) (k : ℤ) (u : Word) (L : List Entry) → IsImage shape p k u L → (row : Row) → Contains (rows_behind u L) row → Carries shape p k row.from row.to
unfolding row_behind
row_carried shape p k u L image row c = let g = contained_in_map (row_behind u) L row c in subst (λ (t : Row). Carries shape p k t.from t.to) g.2 (entry_carried shape p k u L g.0 image g.1)

-- the rows of one image move words as the rows of another
image_moves : (shape : Shape) (p : List Row) (k : ℤ) (u : Word) (L M : List Entry) → IsPair shape p → IsImage shape p k u L → IsImage shape p k u M → (row : Row) → Contains (rows_behind u M) row → MovesAs shape (rows_behind u L) row.from row.to
image_moves shape p k u L M pair image other row c = record {
  at = λ z w hz m.
      let here = row_carried shape p k u M other row c in
      let there = row_carried shape p k u L image m.row m.listed in
      let first = carries_extends shape p k row.from row.to z hz here in
      let hr = word_rest shape m.row.from m.rest (subst (IsWordOf shape) m.from first.word) in
      let second = carries_extends shape p k m.row.from m.row.to m.rest hr there in
      m.to ∙ carries_single shape p pair k (m.row.from · m.rest) (m.row.to · m.rest) (row.to · z) second (subst (λ t. Carries shape p k t (row.to · z)) m.from first);
}

-- a word has one image
pub image_once : (shape : Shape) (p : List Row) (k : ℤ) (u : Word) (L M : List Entry) → IsPair shape p → IsImage shape p k u L → IsImage shape p k u M → L ≡ M
image_once shape p k u L M pair first second = ascending_same (λ (d : Entry) (e : Entry). slice_cmp nat_cmp d.letters e.letters ≡ Less) (λ d e l m. word_cmp_once (root_word 1 · d.letters) (root_word 1 · e.letters) l m) L M first.order second.order
    (listed L M first second)
    (listed M L second first)
  where
    listed : (L M : List Entry) → IsImage shape p k u L → IsImage shape p k u M → (e : Entry) → Contains L e → Contains M e
    listed L M first second e c = entry_listed u M e (same_rows shape (λ w. IsUnder w u) (rows_behind u M) (rows_behind u L) (entries_reduced shape u M second.covers second.merged) (entries_reduced shape u L first.covers first.merged)
        (image_moves shape p k u M L pair second first) (image_moves shape p k u L M pair first second) (row_behind u e) (Contains-map (row_behind u) L e c))
