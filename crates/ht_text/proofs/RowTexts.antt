-- Texts of rows, as a front of rows, each with a `;` behind it, and a last row.
use Rattle.std.proofs.Common.{◌≡◌, ◌≢◌, ◌<◌, ◌+◌, ℕ, suc, length, take, drop, get_or, take-append-drop, List, [], ◌∷◌, ◌++◌, refl, sym, ap, ◌∙◌, subst, arith, append_assoc, append-nil}
use Rattle.std.specs.List.{flat_map}
use Rattle.std.proofs.lemmas.List.{drop_more, get_or_append_left, get_or_push, length-append}
use Rattle.std.proofs.lemmas.List.Elements.{All-push}
use Rattle.std.proofs.lemmas.Grind.{flat_map-append}
use Rattle.ht_pair.specs.declared.row.Row.{Row}
use Rattle.ht_text.specs.Texts.{HasRowText, HasRowsText, IsWord, IsRow, IsRows, word_text, row_text, ended_text, rows_text}
use Rattle.ht_text.specs.Writes.{AddsFront}
use Rattle.ht_text.proofs.Cuts.{IsFree, free_one, free_append, same_cut, not_cut}
use Rattle.ht_text.proofs.WordTexts.{IsNoWordByte, word_without, word_free, same_word}
use Rattle.ht_text.proofs.Writing.{adds_within, adds_behind}

-- rows before the last one
abbrev pub front_text : List Row → List ℕ
front_text rows = flat_map ended_text rows

-- `front_and_last` with one more piece before it
join_front : (a b c d : List ℕ) → d ≡ b ++ c → a ++ d ≡ (a ++ b) ++ c
join_front a b c d e = rw (e, append_assoc)

-- a text of rows is its front and its last row
pub front_and_last : (before : List Row) (last : Row) → rows_text (before ++ last ∷ []) ≡ front_text before ++ row_text last
front_and_last [] last = refl
front_and_last (row ∷ []) last = join_front (ended_text row) [] (row_text last) (row_text last) refl
front_and_last (row ∷ next ∷ rows) last =
    join_front (ended_text row) (front_text (next ∷ rows)) (row_text last) (rows_text (next ∷ rows ++ last ∷ [])) (front_and_last (next ∷ rows) last)

-- the front and the last row were written
pub wrote_all : (old out : List ℕ) (rows before : List Row) (last : Row) → out ≡ old ++ front_text before → rows ≡ before ++ last ∷ []
    → out ++ row_text last ≡ old ++ rows_text rows
wrote_all old out rows before last wrote split =
    ap (λ t. t ++ row_text last) wrote ∙ append_assoc old (front_text before) (row_text last) ∙ ap (λ t. old ++ t) (sym (front_and_last before last) ∙ ap rows_text (sym split))

-- rows that have texts, as a front and a last row
pub have_front_and_last : (rows before : List Row) (last : Row) → rows ≡ before ++ last ∷ [] → HasRowsText rows → HasRowsText before × HasRowText last
have_front_and_last rows before last split h =
    let all = subst HasRowsText split h in (
      (λ k d l. subst HasRowText (get_or_append_left before (last ∷ []) d k l) (all k d (omega (arith, length-append before (last ∷ []))))),
      subst HasRowText (get_or_push before last last (length before) refl) (all (length before) last (omega (arith, length-append before (last ∷ [])))),
    )

-- the front and a front of the last row were written
pub adds_last : (old out new : List ℕ) (rows before : List Row) (last : Row) → out ≡ old ++ front_text before → rows ≡ before ++ last ∷ []
    → AddsFront out new (row_text last) → AddsFront old new (rows_text rows)
adds_last old out new rows before last wrote split h =
    subst (λ t. AddsFront old new t) (sym (front_and_last before last) ∙ ap rows_text (sym split)) (adds_behind old out new (front_text before) (row_text last) wrote h)

-- the front is cut round each of its rows
front_at : (before : List Row) (i : ℕ) (row : Row) → i < length before → front_text before ≡ (front_text (take i before) ++ ended_text (get_or before i row)) ++ front_text (drop (i + 1) before)
front_at before i row within =
    ap front_text (sym (take-append-drop i before) ∙ ap (λ t. take i before ++ t) (drop_more before i row within))
    ∙ flat_map-append ended_text (take i before) (get_or before i row ∷ drop (i + 1) before)
    ∙ sym (append_assoc (front_text (take i before)) (ended_text (get_or before i row)) (front_text (drop (i + 1) before)))

-- some rows of the front and a front of the next one were written
pub adds_row : (old out new : List ℕ) (rows before : List Row) (last row : Row) (i : ℕ) → i < length before → out ≡ old ++ front_text (take i before) → rows ≡ before ++ last ∷ []
    → AddsFront out new (ended_text (get_or before i row)) → AddsFront old new (rows_text rows)
adds_row old out new rows before last row i within wrote split h =
    let behind = adds_behind old out new (front_text (take i before)) (ended_text (get_or before i row)) wrote h in
    let part = subst (λ t. AddsFront old new t) (sym (front_at before i row within))
    (adds_within old new (front_text (take i before) ++ ended_text (get_or before i row)) (front_text (drop (i + 1) before)) behind) in
    subst (λ t. AddsFront old new t) (sym (front_and_last before last) ∙ ap rows_text (sym split)) (adds_within old new (front_text before) (row_text last) part)

-- a byte that no text of a row has
pub row_without : (x : ℕ) (row : Row) → HasRowText row → IsNoWordByte x → 62 ≢ x → IsFree x (row_text row)
row_without x row h out no_arrow =
    free_append x (word_text row.from ++ 62 ∷ []) (word_text row.to)
    (free_append x (word_text row.from) (62 ∷ []) (word_without x row.from h.from out) (free_one x 62 no_arrow))
    (word_without x row.to h.to out)

-- the text of a row has no `;`
row_free : (bytes : List ℕ) (row : Row) → IsRow bytes row → IsFree 59 bytes
row_free bytes row h =
    subst (λ t. IsFree 59 t) (sym h.is)
    (row_without 59 row h.has_text (record { no_point = λ e. absurd (omega arith); no_mark = λ e. absurd (omega arith); no_digit = λ r. absurd (omega arith) }) (λ e. absurd (omega arith)))

-- the words of a row are round its `>`
row_cut : (bytes : List ℕ) (row : Row) → IsRow bytes row → bytes ≡ word_text row.from ++ 62 ∷ word_text row.to
row_cut bytes row h = h.is ∙ append_assoc (word_text row.from) (62 ∷ []) (word_text row.to)

-- without a `>` there is no row
pub no_row : (bytes : List ℕ) (row : Row) → IsFree 62 bytes → ¬ IsRow bytes row
no_row bytes row free h = not_cut 62 bytes (word_text row.from) (word_text row.to) free (row_cut bytes row h)

-- the bytes before and after the first `>` are the texts of the row's words
pub row_words : (first second : List ℕ) (row : Row) → IsFree 62 first → IsRow (first ++ 62 ∷ second) row → IsWord first row.from × IsWord second row.to
row_words first second row free h =
    let same = same_cut 62 first second (word_text row.from) (word_text row.to) free (word_free 62 row.from h.has_text.from (omega arith) (omega arith)) (row_cut (first ++ 62 ∷ second) row h) in
    (record { has_text = h.has_text.from; is = same.0 }, record { has_text = h.has_text.to; is = same.1 })

-- a row and more rows, before and after a `;`
pub record IsRowAndRows (piece behind : List ℕ) : Type 0 where
  pub row : Row
  pub is_row : IsRow piece row
  pub rows : List Row
  pub are_rows : IsRows behind rows

-- the first of rows that have texts has one
row_of : (row : Row) (rows : List Row) → HasRowsText (row ∷ rows) → IsRow (row_text row) row
row_of row rows h = record { has_text = h 0 row (omega arith); is = refl }

-- the text of two rows and more is cut at a `;`
rows_cut : (bytes : List ℕ) (row next : Row) (rows : List Row) → IsRows bytes (row ∷ next ∷ rows) → bytes ≡ row_text row ++ 59 ∷ rows_text (next ∷ rows)
rows_cut bytes row next rows h = h.is ∙ append_assoc (row_text row) (59 ∷ []) (rows_text (next ∷ rows))

-- one row alone
only_row : (bytes : List ℕ) (row : Row) → IsRows bytes (row ∷ []) → IsRow bytes row
only_row bytes row h = record { has_text = h.have_texts 0 row (omega arith); is = h.is }

-- one row isn't two rows or more
not_more : (bytes : List ℕ) (r s next : Row) (rows : List Row) → IsRows bytes (r ∷ []) → ¬ IsRows bytes (s ∷ next ∷ rows)
not_more bytes r s next rows g h = not_cut 59 bytes (row_text s) (rows_text (next ∷ rows)) (row_free bytes r (only_row bytes r g)) (rows_cut bytes s next rows h)

-- the rows behind the first one
rows_behind : (row next : Row) (rows : List Row) → HasRowsText (row ∷ next ∷ rows) → IsRows (rows_text (next ∷ rows)) (next ∷ rows)
rows_behind row next rows h = record { some = λ none. cc; have_texts = λ k d l. h (suc k) d (omega arith); is = refl }

-- without a `;` there is one row
pub one_row : (bytes : List ℕ) (rows : List Row) → IsFree 59 bytes → IsRows bytes rows → (row : Row) × IsRow bytes row
one_row bytes [] free h = absurd (h.some refl)
one_row bytes (row ∷ []) free h = (row, only_row bytes row h)
one_row bytes (row ∷ next ∷ rows) free h =
    absurd (not_cut 59 bytes (row_text row) (rows_text (next ∷ rows)) free (rows_cut bytes row next rows h))

-- rows are cut at the first `;`
pub first_row : (piece behind : List ℕ) (rows : List Row) → IsFree 59 piece → IsRows (piece ++ 59 ∷ behind) rows → IsRowAndRows piece behind
first_row piece behind [] free h = absurd (h.some refl)
first_row piece behind (row ∷ []) free h =
    absurd (not_cut 59 (row_text row) piece behind (row_free (row_text row) row (row_of row [] h.have_texts)) (sym h.is))
first_row piece behind (row ∷ next ∷ rows) free h =
    let is_row = row_of row (next ∷ rows) h.have_texts in
    let same = same_cut 59 piece behind (row_text row) (rows_text (next ∷ rows)) free (row_free (row_text row) row is_row) (rows_cut (piece ++ 59 ∷ behind) row next rows h) in
    record {
      row = row;
      is_row = subst (λ t. IsRow t row) (sym same.0) is_row;
      rows = next ∷ rows;
      are_rows = subst (λ t. IsRows t (next ∷ rows)) (sym same.1) (rows_behind row next rows h.have_texts);
    }

-- the rows read, and the bytes that are left
pub record HasRead (bytes : List ℕ) (rows : List Row) (rest : List ℕ) : Type 0 where
  pub have_texts : HasRowsText rows
  pub is : bytes ≡ front_text rows ++ rest
  pub more : (all : List Row) → IsRows bytes all → (rows : List Row) × IsRows rest rows

-- a `;` from the head of the rest to the end of the piece
shifted : (a p b : List ℕ) → a ++ (p ++ 59 ∷ b) ≡ (a ++ (p ++ 59 ∷ [])) ++ b
shifted a p b = ap (λ t. a ++ t) (sym (append_assoc p (59 ∷ []) b)) ∙ sym (append_assoc a (p ++ 59 ∷ []) b)

-- a front with one more row
front_push : (rows : List Row) (row : Row) → front_text (rows ++ row ∷ []) ≡ front_text rows ++ ended_text row
front_push rows row = flat_map-append ended_text rows (row ∷ []) ∙ ap (λ t. front_text rows ++ t) (append-nil (ended_text row))

-- one more row was read
pub read_more : (bytes : List ℕ) (rows : List Row) (piece behind : List ℕ) (row : Row) → IsFree 59 piece → HasRead bytes rows (piece ++ 59 ∷ behind) → IsRow piece row
    → HasRead bytes (rows ++ row ∷ []) behind
read_more bytes rows piece behind row free h g = record {
  have_texts = All-push HasRowText rows row h.have_texts g.has_text;
  is = h.is ∙ shifted (front_text rows) piece behind ∙ ap (λ t. (front_text rows ++ (t ++ 59 ∷ [])) ++ behind) g.is ∙ ap (λ t. t ++ behind) (sym (front_push rows row));
  more = λ all a. let left = h.more all a in let parts = first_row piece behind left.0 free left.1 in (parts.rows, parts.are_rows);
}

-- a list with an item at its end isn't empty
not_nil : (rows : List Row) (row : Row) → rows ++ row ∷ [] ≢ []
not_nil [] row e = cc
not_nil (first ∷ rows) row e = cc

-- the last row was read
pub read_last : (bytes : List ℕ) (rows : List Row) (rest : List ℕ) (row : Row) → HasRead bytes rows rest → IsRow rest row → IsRows bytes (rows ++ row ∷ [])
read_last bytes rows rest row h g = record {
  some = not_nil rows row;
  have_texts = All-push HasRowText rows row h.have_texts g.has_text;
  is = h.is ∙ ap (λ t. front_text rows ++ t) g.is ∙ sym (front_and_last rows row);
}

-- rows of equal words
row_eq : {r s : Row} → r.from ≡ s.from → r.to ≡ s.to → r ≡ s
row_eq p q = λ i. record { from = p i; to = q i }

-- bytes are one row at most
pub same_row : (bytes : List ℕ) (r s : Row) → IsRow bytes r → IsRow bytes s → r ≡ s
same_row bytes r s g h =
    let free = word_free 62 r.from g.has_text.from (omega arith) (omega arith) in
    let words = row_words (word_text r.from) (word_text r.to) s free (subst (λ t. IsRow t s) (row_cut bytes r g) h) in
    row_eq (same_word (word_text r.from) r.from s.from (record { has_text = g.has_text.from; is = refl }) words.0)
    (same_word (word_text r.to) r.to s.to (record { has_text = g.has_text.to; is = refl }) words.1)

-- bytes are one list of rows at most
pub same_rows : (bytes : List ℕ) (p q : List Row) → IsRows bytes p → IsRows bytes q → p ≡ q
same_rows bytes [] q g h = absurd (g.some refl)
same_rows bytes (r ∷ p) [] g h = absurd (h.some refl)
same_rows bytes (r ∷ []) (s ∷ []) g h = ap (λ (t : Row). t ∷ []) (same_row bytes r s (only_row bytes r g) (only_row bytes s h))
same_rows bytes (r ∷ []) (s ∷ next ∷ q) g h = absurd (not_more bytes r s next q g h)
same_rows bytes (r ∷ next ∷ p) (s ∷ []) g h = absurd (not_more bytes s r next p h g)
same_rows bytes (r ∷ n ∷ p) (s ∷ m ∷ q) g h =
    let r_row = row_of r (n ∷ p) g.have_texts in
    let s_row = row_of s (m ∷ q) h.have_texts in
    let same = same_cut 59 (row_text r) (rows_text (n ∷ p)) (row_text s) (rows_text (m ∷ q)) (row_free (row_text r) r r_row) (row_free (row_text s) s s_row)
    (sym (rows_cut bytes r n p g) ∙ rows_cut bytes s m q h) in
    let head : r ≡ s = same_row (row_text r) r s r_row (subst (λ t. IsRow t s) (sym same.0) s_row) in
    let rest : n ∷ p ≡ m ∷ q = same_rows (rows_text (n ∷ p)) (n ∷ p) (m ∷ q) (rows_behind r n p g.have_texts)
    (subst (λ t. IsRows t (m ∷ q)) (sym same.1) (rows_behind s m q h.have_texts)) in
    cc

-- only no rows have the empty text
no_text : (row : Row) (rows : List Row) → rows_text (row ∷ rows) ≢ []
no_text row [] e = cc
no_text row (next ∷ rows) e = cc

-- rows with one text are the same
pub same_by_text : (p q : List Row) → HasRowsText p → HasRowsText q → rows_text p ≡ rows_text q → p ≡ q
same_by_text [] [] g h e = refl
same_by_text [] (s ∷ q) g h e = absurd (no_text s q (sym e))
same_by_text (r ∷ p) [] g h e = absurd (no_text r p e)
same_by_text (r ∷ p) (s ∷ q) g h e =
    same_rows (rows_text (r ∷ p)) (r ∷ p) (s ∷ q) (record { some = λ none. cc; have_texts = g; is = refl }) (record { some = λ none. cc; have_texts = h; is = e })
