-- Rows made of value lists at the words of an atom: their `from` words cover these, and they move words as the lists send letters.
use Rattle.std.proofs.Common.{◌≡◌, ℕ, zero, suc, ◌<◌, ◌≤◌, ◌+◌, inl, inr, List, [], ◌∷◌, ◌++◌, length, Option, None, Some, slice_get, refl, sym, ap, ◌∙◌, subst, arith, Contains, All, AllPairs}
use Rattle.std.proofs.lemmas.List.Elements.{All-contains, Contains-append_left, Contains-append_right, Contains-append_cases}
use Rattle.std.proofs.lemmas.Option.{slice_get_within, get_or_from_slice_get, same_Some}
use Rattle.ht_word.specs.Words.{◌·◌, IsLetters, IsWordOf, IsUnder, root_word}
use Rattle.ht_word.specs.declared.shape.Shape.{Shape}
use Rattle.ht_word.specs.declared.word.Word.{Word}
use Rattle.ht_word.proofs.ListLaws.{AllPairs-append, AllPairs-from_map, AllPairs-head, AllPairs-map, AllPairs-nil, AllPairs-tail, AllPairs-weaker, Contains-map, Contains-nil, contained_in_map, trichotomy}
use Rattle.ht_word.proofs.WordLaws.{All-from_contains, after-append, after-nil, after_cancel, length-after, under_after, under_trans, word_after, word_rest}
use Rattle.ht_pair.specs.Actions.{Moves}
use Rattle.ht_pair.specs.Atoms.{words_at}
use Rattle.ht_pair.specs.Bases.{AreApart, Covers, IsBasis, IsPrefixFree, longest}
use Rattle.ht_pair.specs.Images.{Entry, words_behind}
use Rattle.ht_pair.specs.Pairs.{from_words, to_words}
use Rattle.ht_pair.specs.ValueLists.{IsValueList, Sends}
use Rattle.ht_pair.specs.declared.row.Row.{Row}
use Rattle.ht_pair.proofs.BasisLaws.{apart_under, basis_single, basis_word, covers_from, longest_bounds, longest_least, prefix_free_place, some_at}
use Rattle.ht_pair.proofs.ValueListLaws.{reach_of, sends_some}
use Rattle.ht_quasi.proofs.RoundLaws.{something_at}
use Rattle.ht_quasi.proofs.StepLaws.{at_place}
use Rattle.ht_types.proofs.PlacedWords.{at_places, placed_word}
use Rattle.ht_local.specs.PlacedLists.{rows_at, rows_of_list}
use Rattle.ht_local.proofs.PlaceLaws.{entry_listed}

-- ---- places

-- in an ascending list each place stands once
pub place_once : (k : List ℕ) → AllPairs (λ (i : ℕ) (j : ℕ). i < j) k → (i j place : ℕ) → slice_get k i ≡ Some place → slice_get k j ≡ Some place → i ≡ j
place_once k ascending i j place e h = elim (trichotomy i j) [
  | inl l ↦ elim l [
    | inl less ↦ absurd (omega (arith, ascending i j place less (slice_get_within k j place h), get_or_from_slice_get k i place place e, get_or_from_slice_get k j place place h))
    | inr more ↦ absurd (omega (arith, ascending j i place more (slice_get_within k i place e), get_or_from_slice_get k i place place e, get_or_from_slice_get k j place place h))
  ]
  | inr same ↦ same
]

-- ---- the rows

-- the row of an entry of the list of a word
abbrev pub entry_row : Word → Entry → Row
entry_row x e = record { from = x · e.letters; to = e.word }

-- where a row comes from
pub record IsRowAt (X : List Word) (k : List ℕ) (lists : List (List Entry)) (row : Row) : Type 0 where
  pub index : ℕ
  pub place : ℕ
  pub place_at : slice_get k index ≡ Some place
  pub word : Word
  pub here : slice_get X place ≡ Some word
  pub list : List Entry
  pub list_at : slice_get lists index ≡ Some list
  pub entry : Entry
  pub listed : Contains list entry
  pub is : entry_row word entry ≡ row

pub row_at : (X : List Word) (k : List ℕ) (lists : List (List Entry)) (row : Row) → Contains (rows_at X k lists) row → IsRowAt X k lists row
row_at X [] lists row c = absurd (Contains-nil row c)
row_at X (place ∷ k) [] row c = absurd (Contains-nil row c)
row_at X (place ∷ k) (L ∷ lists) row c = elim (Contains-append_cases (rows_of_list (slice_get X place) L) (rows_at X k lists) row c) [
  | inl here ↦ first (slice_get X place) refl here
  | inr there ↦ (let r = row_at X k lists row there in record { index = suc r.index; place = r.place; place_at = r.place_at; word = r.word; here = r.here; list = r.list; list_at = r.list_at; entry = r.entry; listed = r.listed; is = r.is })
]
  where
    first : (o : Option Word) → slice_get X place ≡ o → Contains (rows_of_list o L) row → IsRowAt X (place ∷ k) (L ∷ lists) row
    first None e c = absurd (Contains-nil row c)
    first (Some x) e c = let g = contained_in_map (entry_row x) L row c in record { index = 0; place = place; place_at = refl; word = x; here = e; list = L; list_at = refl; entry = g.0; listed = g.1; is = g.2 }

pub row_listed : (X : List Word) (k : List ℕ) (lists : List (List Entry)) (i place : ℕ) (x : Word) (L : List Entry) (e : Entry) → slice_get k i ≡ Some place → slice_get X place ≡ Some x
    → slice_get lists i ≡ Some L → Contains L e → Contains (rows_at X k lists) (entry_row x e)
row_listed X [] lists i place x L e p h l c = absurd cc
row_listed X (q ∷ k) [] i place x L e p h l c = absurd cc
row_listed X (q ∷ k) (M ∷ lists) zero place x L e p h l c =
    let same : slice_get X q ≡ Some x = ap (λ t. slice_get X t) (same_Some q place p) ∙ h in
    Contains-append_left (rows_of_list (slice_get X q) M) (rows_at X k lists) (entry_row x e)
    (subst (λ o. Contains (rows_of_list o M) (entry_row x e)) (sym same) (Contains-map (entry_row x) M e (subst (λ N. Contains N e) (sym (same_Some M L l)) c)))
row_listed X (q ∷ k) (M ∷ lists) (suc i) place x L e p h l c =
    Contains-append_right (rows_of_list (slice_get X q) M) (rows_at X k lists) (entry_row x e) (row_listed X k lists i place x L e p h l c)

-- ---- the words of a value list behind a word

letters_of : (shape : Shape) (L : List Entry) → IsValueList shape L → (e : Entry) → Contains L e → IsLetters shape e.letters
letters_of shape L list e c = word_rest shape (root_word 1) e.letters
    (All-contains (IsWordOf shape) (words_behind (root_word 1) L) (root_word 1 · e.letters) list.covers.words (Contains-map (λ (d : Entry). root_word 1 · d.letters) L e c))

shifted : (x : Word) (d e : Entry) → IsUnder (x · d.letters) (x · e.letters) → IsUnder (root_word 1 · d.letters) (root_word 1 · e.letters)
shifted x d e u = record { rest = u.rest; is = ap (λ z. root_word 1 · z) (after_cancel x d.letters (e.letters ++ u.rest) (u.is ∙ after-append x e.letters u.rest)) }

-- the rows of one list go from words that are apart
list_apart : (shape : Shape) (o : Option Word) (L : List Entry) → IsValueList shape L → AllPairs (λ (r : Row) (s : Row). AreApart r.from s.from) (rows_of_list o L)
list_apart shape None L list = AllPairs-nil (λ (r : Row) (s : Row). AreApart r.from s.from)
list_apart shape (Some x) L list = AllPairs-map (entry_row x) (λ (r : Row) (s : Row). AreApart r.from s.from) L
    (AllPairs-weaker (λ (d : Entry) (e : Entry). AreApart (root_word 1 · d.letters) (root_word 1 · e.letters)) (λ (d : Entry) (e : Entry). AreApart (x · d.letters) (x · e.letters)) L
    (AllPairs-from_map (λ (d : Entry). root_word 1 · d.letters) AreApart L list.covers.prefix_free)
    (λ d e c m apart. ((λ u. apart.0 (shifted x d e u)), (λ u. apart.1 (shifted x e d u)))))

-- and so do those of all
abbrev AreValueLists : Shape → List (List Entry) → Type 0
AreValueLists shape lists = (i : ℕ) (L : List Entry) → slice_get lists i ≡ Some L → IsValueList shape L

row_under : (o : Option Word) (L : List Entry) (r : Row) → Contains (rows_of_list o L) r → (x : Word) × (o ≡ Some x) × IsUnder r.from x
row_under None L r c = absurd (Contains-nil r c)
row_under (Some x) L r c = let g = contained_in_map (entry_row x) L r c in (x, refl, record { rest = g.0.letters; is = ap (λ (t : Row). t.from) (sym g.2) })

rows_apart : (shape : Shape) (X : List Word) → IsPrefixFree X → (k : List ℕ) → AllPairs (λ (i : ℕ) (j : ℕ). i < j) k → (lists : List (List Entry)) → AreValueLists shape lists
    → AllPairs (λ (r : Row) (s : Row). AreApart r.from s.from) (rows_at X k lists)
rows_apart shape X free [] ascending lists are = AllPairs-nil (λ (r : Row) (s : Row). AreApart r.from s.from)
rows_apart shape X free (place ∷ k) ascending [] are = AllPairs-nil (λ (r : Row) (s : Row). AreApart r.from s.from)
rows_apart shape X free (place ∷ k) ascending (L ∷ lists) are =
    AllPairs-append (λ (r : Row) (s : Row). AreApart r.from s.from) (rows_of_list (slice_get X place) L) (rows_at X k lists) (list_apart shape (slice_get X place) L (are 0 L refl))
    (rows_apart shape X free k (AllPairs-tail (λ (i : ℕ) (j : ℕ). i < j) place k ascending) lists (λ i M e. are (suc i) M e))
    (λ r s c d.
    let u = row_under (slice_get X place) L r c in
    let t = row_at X k lists s d in
    let less : place < t.place = All-contains (λ j. place < j) k t.place (AllPairs-head (λ (i : ℕ) (j : ℕ). i < j) place k ascending) (entry_listed k t.index t.place t.place_at) in
    let below : IsUnder s.from t.word = record { rest = t.entry.letters; is = ap (λ (r : Row). r.from) (sym t.is) } in
    apart_under (
      (λ v. (let e : place ≡ t.place = prefix_free_place X free u.0 t.word (entry_listed X place u.0 u.1) (entry_listed X t.place t.word t.here) v in omega arith)),
      (λ v. (let e : t.place ≡ place = prefix_free_place X free t.word u.0 (entry_listed X t.place t.word t.here) (entry_listed X place u.0 u.1) v in omega arith)),
    ) u.2 below)

-- ---- a table over the words at the places

-- rows of value lists, one for each place
pub record IsTableOver (shape : Shape) (X : List Word) (k : List ℕ) (lists : List (List Entry)) : Type 0 where
  pub basis : IsBasis shape X
  pub ascending : AllPairs (λ (i : ℕ) (j : ℕ). i < j) k
  pub as_many : length lists ≡ length k
  pub values : (i : ℕ) (L : List Entry) → slice_get lists i ≡ Some L → IsValueList shape L

module _ {shape : Shape} {X : List Word} {k : List ℕ} {lists : List (List Entry)} (t : IsTableOver shape X k lists) where
  -- a word at one of the places, with its list
  pub list_there : (i : ℕ) (place : ℕ) → slice_get k i ≡ Some place → (L : List Entry) × (slice_get lists i ≡ Some L) × IsValueList shape L
  list_there i place e = let s = something_at lists i (omega (arith, t.as_many, slice_get_within k i place e)) in (s.0, s.1, t.values i s.0 s.1)

  -- the rows move what is under a word at a place as its list sends the letters behind it
  pub moves_sent : (i place : ℕ) (x : Word) (L : List Entry) → slice_get k i ≡ Some place → slice_get X place ≡ Some x → slice_get lists i ≡ Some L
      → (z : List ℕ) (v : Word) → Moves (rows_at X k lists) (x · z) v → Sends L z v
  moves_sent i place x L p h l z v m =
      let r = row_at X k lists m.row m.listed in
      let from : m.row.from ≡ r.word · r.entry.letters = ap (λ (q : Row). q.from) (sym r.is) in
      let is : x · z ≡ (r.word · r.entry.letters) · m.rest = m.from ∙ ap (λ (w : Word). w · m.rest) from in
      let whole : x · z ≡ r.word · (r.entry.letters ++ m.rest) = is ∙ after-append r.word r.entry.letters m.rest in
      let cx = entry_listed X place x h in
      let cy = entry_listed X r.place r.word r.here in
      let over : IsUnder (x · z) r.word = record { rest = r.entry.letters ++ m.rest; is = whole } in
      let same : x ≡ r.word = basis_single shape X t.basis (x · z) x r.word cx cy (under_after x z) over in
      let place_is : place ≡ r.place = prefix_free_place X t.basis.prefix_free x r.word cx cy (record { rest = []; is = same ∙ sym (after-nil r.word) }) in
      let index_is : i ≡ r.index = place_once k t.ascending i r.index place p (r.place_at ∙ ap Some (sym place_is)) in
      let list_is : L ≡ r.list = same_Some L r.list (sym l ∙ ap (λ j. slice_get lists j) index_is ∙ r.list_at) in
      record {
        entry = r.entry;
        rest = m.rest;
        listed = subst (λ M. Contains M r.entry) (sym list_is) r.listed;
        from = after_cancel x z (r.entry.letters ++ m.rest) (whole ∙ ap (λ (w : Word). w · (r.entry.letters ++ m.rest)) (sym same));
        to = m.to ∙ ap (λ (q : Row). q.to · m.rest) (sym r.is);
      }

  pub sent_moves : (i place : ℕ) (x : Word) (L : List Entry) → slice_get k i ≡ Some place → slice_get X place ≡ Some x → slice_get lists i ≡ Some L
      → (z : List ℕ) (v : Word) → Sends L z v → Moves (rows_at X k lists) (x · z) v
  sent_moves i place x L p h l z v s = record {
    row = entry_row x s.entry;
    rest = s.rest;
    listed = row_listed X k lists i place x L s.entry p h l s.listed;
    from = ap (λ y. x · y) s.from ∙ sym (after-append x s.entry.letters s.rest);
    to = s.to;
  }

  -- the words of the rows are of the shape
  row_words : (row : Row) → Contains (rows_at X k lists) row → IsWordOf shape row.from × IsWordOf shape row.to
  row_words row c =
      let r = row_at X k lists row c in
      let list = t.values r.index r.list r.list_at in
      let hx = basis_word shape X t.basis r.word (entry_listed X r.place r.word r.here) in (
        subst (λ (q : Row). IsWordOf shape q.from) r.is (word_after shape r.word r.entry.letters hx (letters_of shape r.list list r.entry r.listed)),
        subst (λ (q : Row). IsWordOf shape q.to) r.is (All-contains (λ (e : Entry). IsWordOf shape e.word) r.list r.entry list.words r.listed),
      )

  pub to_of_shape : All (IsWordOf shape) (to_words (rows_at X k lists))
  to_of_shape = All-from_contains (IsWordOf shape) (to_words (rows_at X k lists)) (λ w c. let r = contained_in_map (λ (q : Row). q.to) (rows_at X k lists) w c in subst (IsWordOf shape) r.2 (row_words r.0 r.1).1)

  -- a list reaches no further than the longest `from` word
  reach_bound : (i place : ℕ) (x : Word) (L : List Entry) → slice_get k i ≡ Some place → slice_get X place ≡ Some x → slice_get lists i ≡ Some L → reach_of L ≤ longest (from_words (rows_at X k lists))
  reach_bound i place x L p h l = longest_least (words_behind (root_word 1) L) (longest (from_words (rows_at X k lists))) (λ w c.
      let g = contained_in_map (λ (e : Entry). root_word 1 · e.letters) L w c in
      let e = g.0 in
      omega (arith, ap (λ (v : Word). length v.letters) g.2, length-after x e.letters, longest_bounds (from_words (rows_at X k lists)) (x · e.letters) (Contains-map (λ (q : Row). q.from) (rows_at X k lists) (entry_row x e) (row_listed X k lists i place x L e p h l g.1))))

  -- the `from` words cover the words at the places
  pub table_covers : Covers shape (from_words (rows_at X k lists)) (words_at X k)
  table_covers =
      let rows = rows_at X k lists in
      let W = from_words rows in
      covers_from shape W (words_at X k)
      (All-from_contains (IsWordOf shape) W (λ w c. let r = contained_in_map (λ (q : Row). q.from) rows w c in subst (IsWordOf shape) r.2 (row_words r.0 r.1).0))
      (AllPairs-map (λ (q : Row). q.from) AreApart rows (rows_apart shape X t.basis.prefix_free k t.ascending lists t.values))
      (longest W + longest (words_at X k))
      (λ u hu m. (
        (λ s.
            let c = contained_in_map (λ (q : Row). q.from) rows s.above s.listed in
            let r = row_at X k lists c.0 c.1 in
            let below : IsUnder s.above r.word = record { rest = r.entry.letters; is = sym c.2 ∙ ap (λ (q : Row). q.from) (sym r.is) } in
            some_at (words_at X k) r.word u (at_places X k r.place r.word (entry_listed k r.index r.place r.place_at) r.here) (under_trans s.under below)),
        (λ s.
            let g = placed_word X k s.above s.listed in
            let p = at_place k g.0 g.1 in
            let l = list_there g.1.0 g.0 p in
            let z = s.under.rest in
            let hz = word_rest shape s.above z (subst (IsWordOf shape) s.under.is hu) in
            let long : reach_of l.0 ≤ length z = omega (arith, reach_bound g.1.0 g.0 s.above l.0 p g.2 l.1, ap (λ (w : Word). length w.letters) s.under.is, length-after s.above z, longest_bounds (words_at X k) s.above s.listed) in
            let d = sends_some shape l.0 l.2 z hz long in
            let n = sent_moves g.1.0 g.0 s.above l.0 p g.2 l.1 z d.0 d.1 in
            some_at W n.row.from u (Contains-map (λ (q : Row). q.from) rows n.row n.listed) (record { rest = n.rest; is = s.under.is ∙ n.from })),
      ))
