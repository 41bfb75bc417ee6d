-- Texts of rows, read from their begin.
use Rattle.std.proofs.Common.{◌≡◌, ◌↔◌, ℕ, suc, List, [], ◌∷◌, ◌++◌, refl, sym, ap, ◌∙◌, arith, append_assoc, append-nil}
use Rattle.std.proofs.lemmas.List.Elements.{All-cons, All-nil}
use Rattle.ht_pair.specs.declared.row.Row.{Row}
use Rattle.ht_text.specs.Texts.{HasRowText, IsRows, word_text, row_text, rows_text}
use Rattle.ht_text.specs.Fronts.{IsWordText, IsRowsText}
use Rattle.ht_text.specs.Places.{CompletesWith, EndsFromWord, EndsRow}
use Rattle.ht_text.specs.declared.place.Place.TheVariants.{Start}
use Rattle.ht_text.proofs.WordFronts.{marked, word_marked}

-- a row, and what ends it
row_split : (from to tail : List ℕ) → ((from ++ 62 ∷ []) ++ to) ++ tail ≡ from ++ 62 ∷ (to ++ tail)
row_split from to tail = append_assoc (from ++ 62 ∷ []) to tail ∙ append_assoc from (62 ∷ []) (to ++ tail)

-- a row and what ends it
row_follows : (bytes tail : List ℕ) (row : Row) → HasRowText row → EndsRow tail → bytes ≡ row_text row ++ tail → CompletesWith EndsFromWord Start bytes
row_follows bytes tail row h ends e = record {
  word = word_text row.from;
  follows = marked (word_text row.from) row.from (record { has_text = h.from; is = refl });
  behind = 62 ∷ (word_text row.to ++ tail);
  ends = (
    refl,
    record {
      word = word_text row.to;
      follows = marked (word_text row.to) row.to (record { has_text = h.to; is = refl });
      behind = tail;
      ends = ends;
      is = refl;
    },
  );
  is = e ∙ row_split (word_text row.from) (word_text row.to) tail;
}

-- rows begin with a row
rows_follow : (bytes : List ℕ) (rows : List Row) → IsRows bytes rows → CompletesWith EndsFromWord Start bytes
rows_follow bytes [] h = absurd (h.some refl)
rows_follow bytes (row ∷ []) h = row_follows bytes [] row (h.have_texts 0 row (omega arith)) tt (h.is ∙ sym (append-nil (row_text row)))
rows_follow bytes (row ∷ next ∷ rows) h =
    row_follows bytes (59 ∷ rows_text (next ∷ rows)) row (h.have_texts 0 row (omega arith))
    (refl, (next ∷ rows, record { some = λ none. cc; have_texts = λ k d l. h.have_texts (suc k) d (omega arith); is = refl }))
    (h.is ∙ append_assoc (row_text row) (59 ∷ []) (rows_text (next ∷ rows)))

-- one more row before rows
row_before : (bytes text : List ℕ) (row : Row) (rows : List Row) → HasRowText row → bytes ≡ row_text row ++ 59 ∷ text → IsRows text rows → IsRows bytes (row ∷ rows)
row_before bytes text row [] h e more = absurd (more.some refl)
row_before bytes text row (next ∷ rows) h e more = record {
  some = λ none. cc;
  have_texts = All-cons HasRowText row (next ∷ rows) h more.have_texts;
  is = e ∙ ap (λ t. row_text row ++ 59 ∷ t) more.is ∙ sym (append_assoc (row_text row) (59 ∷ []) (rows_text (next ∷ rows)));
}

-- a row and what ends it are rows
of_row : (bytes tail : List ℕ) (row : Row) → HasRowText row → EndsRow tail → bytes ≡ row_text row ++ tail → IsRowsText bytes
of_row bytes [] row h ends e =
    (row ∷ [], record { some = λ none. cc; have_texts = All-cons HasRowText row [] h (All-nil HasRowText); is = e ∙ append-nil (row_text row) })
of_row bytes (b ∷ text) row h ends e =
    (row ∷ ends.1.0, row_before bytes text row ends.1.0 h (e ∙ ap (λ t. row_text row ++ t ∷ text) ends.0) ends.1.1)

-- two words and what ends their row are rows
of_words : (bytes from to tail : List ℕ) → IsWordText from → IsWordText to → EndsRow tail → bytes ≡ from ++ 62 ∷ (to ++ tail) → IsRowsText bytes
of_words bytes from to tail f t ends e =
    let row : Row = record { from = f.0; to = t.0 } in
    of_row bytes tail row (record { from = f.1.has_text; to = t.1.has_text }) ends
    (e ∙ ap (λ u. u ++ 62 ∷ (to ++ tail)) f.1.is ∙ ap (λ u. word_text f.0 ++ 62 ∷ (u ++ tail)) t.1.is ∙ sym (row_split (word_text f.0) (word_text t.0) tail))

-- a `from` word and what is behind it are rows
behind_from : (bytes word behind : List ℕ) → IsWordText word → EndsFromWord behind → bytes ≡ word ++ behind → IsRowsText bytes
behind_from bytes word [] from ends e = absurd ends
behind_from bytes word (b ∷ behind) from ends e =
    let to = ends.1 in
    of_words bytes word to.word to.behind from ((word_marked to.word).1 to.follows) to.ends (e ∙ ap (λ t. word ++ t ∷ behind) ends.0 ∙ ap (λ t. word ++ 62 ∷ t) to.is)

-- a text of rows is a `from` word and what is behind it
pub rows_begin : (bytes : List ℕ) → IsRowsText bytes ↔ CompletesWith EndsFromWord Start bytes
rows_begin bytes = ((λ h. rows_follow bytes h.0 h.1), (λ h. behind_from bytes h.word h.behind ((word_marked h.word).1 h.follows) h.ends h.is))
