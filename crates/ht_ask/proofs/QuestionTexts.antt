-- The rows of an image and the words of a basis have texts.
use Rattle.std.proofs.Common.{◌≡◌, ◌≢◌, pos, List, [], All, sym, subst, arith}
use Rattle.std.proofs.lemmas.List.Elements.{All-contains, All-map}
use Rattle.ht_word.specs.declared.word.Word.{Word}
use Rattle.ht_word.specs.declared.shape.Shape.{Shape}
use Rattle.ht_word.specs.Words.{◌·◌, IsWordOf, root_word}
use Rattle.ht_word.proofs.WordLaws.{All-from_contains}
use Rattle.ht_word.proofs.ListLaws.{Contains-nil, Contains-map}
use Rattle.ht_pair.specs.declared.row.Row.{Row}
use Rattle.ht_pair.specs.Bases.{IsBasis}
use Rattle.ht_pair.specs.Images.{Entry, IsImage, words_behind}
use Rattle.ht_pair.proofs.BasisLaws.{basis_holds}
use Rattle.ht_pair.proofs.ValueListLaws.{root_one}
use Rattle.ht_text.specs.Texts.{HasRowText, HasRowsText}
use Rattle.ht_text.proofs.CanonicalTexts.{word_has_text, words_have_texts}
use Rattle.ht_answer.specs.Answers.{HasWordsText}
use Rattle.ht_ask.specs.ShownImages.{rows_from}

abbrev row_from : Word → Entry → Row
row_from word e = record { from = word · e.letters; to = e.word }

-- the rows of an image that leads to words of the shape have texts
pub image_has_texts : (shape : Shape) (p : List Row) (word : Word) (L : List Entry) → IsImage shape p (pos 1) word L → All (λ (e : Entry). IsWordOf shape e.word) L → HasRowsText (rows_from word L)
image_has_texts shape p word L image to = All-map HasRowText (row_from word) L (All-from_contains (λ e. HasRowText (row_from word e)) L (λ e c. record {
  from = word_has_text shape (word · e.letters) (All-contains (IsWordOf shape) (words_behind word L) (word · e.letters) image.covers.words (Contains-map (λ (d : Entry). word · d.letters) L e c));
  to = word_has_text shape e.word (All-contains (λ (d : Entry). IsWordOf shape d.word) L e to c);
}))

-- a basis has a word
some_word : (shape : Shape) (X : List Word) → IsBasis shape X → X ≢ []
some_word shape X h e =
    let over = basis_holds shape [] (subst (IsBasis shape) e h) (root_word 1) (root_one shape) (omega arith) in
    Contains-nil over.above over.listed

-- the words of a basis have texts
pub basis_has_text : (shape : Shape) (X words : List Word) → IsBasis shape X → words ≡ X → (words ≢ []) × HasWordsText words
basis_has_text shape X words h is =
    let basis = subst (IsBasis shape) (sym is) h in
    (some_word shape words basis, words_have_texts shape words basis.words)
