-- Words of a shape and the rows of an element have texts.
use Rattle.std.proofs.Common.{ℕ, List, All, arith}
use Rattle.std.proofs.lemmas.List.Elements.{All-contains}
use Rattle.ht_word.specs.declared.word.Word.{Word}
use Rattle.ht_word.specs.declared.shape.Shape.{Shape}
use Rattle.ht_word.specs.Words.{IsLetter, IsLetters, IsWordOf}
use Rattle.ht_word.proofs.WordLaws.{All-from_contains}
use Rattle.ht_word.proofs.ListLaws.{Contains-map}
use Rattle.ht_pair.specs.declared.row.Row.{Row}
use Rattle.ht_pair.specs.Pairs.{IsPair, from_words, to_words}
use Rattle.ht_pair.proofs.BasisLaws.{basis_word}
use Rattle.ht_text.specs.Texts.{IsDigitLetter, HasText, HasRowText, HasRowsText}

-- letters of a shape are digits from 1 to 9
pub letters_are_digits : (shape : Shape) (z : List ℕ) → IsLetters shape z → All IsDigitLetter z
letters_are_digits shape z h = All-from_contains IsDigitLetter z (λ a c. within a (All-contains (IsLetter shape) z a h c))
  where
    within : (a : ℕ) → IsLetter shape a → IsDigitLetter a
    within a l = (l.0, omega (arith, l.1, shape.letters_high))

-- a word of a shape has a text
pub word_has_text : (shape : Shape) (w : Word) → IsWordOf shape w → HasText w
word_has_text shape w h = record { root_low = h.root_low; root_high = omega (arith, h.root_high, shape.roots_high); letters = letters_are_digits shape w.letters h.letters }

pub words_have_texts : (shape : Shape) (words : List Word) → All (IsWordOf shape) words → All HasText words
words_have_texts shape words h = All-from_contains HasText words (λ w c. word_has_text shape w (All-contains (IsWordOf shape) words w h c))

-- the rows of a pair have texts
pub pair_has_texts : (shape : Shape) (rows : List Row) → IsPair shape rows → HasRowsText rows
pair_has_texts shape rows pair = All-from_contains HasRowText rows (λ row c. record {
  from = word_has_text shape row.from (basis_word shape (from_words rows) pair.from row.from (Contains-map (λ (t : Row). t.from) rows row c));
  to = word_has_text shape row.to (basis_word shape (to_words rows) pair.to row.to (Contains-map (λ (t : Row). t.to) rows row c));
})
