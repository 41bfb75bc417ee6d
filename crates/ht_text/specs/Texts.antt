-- Texts of numbers, words and rows. Each value that has a text has one, and no two values share it.
--
--     IsNum bytes n        bytes are the number n: at most four digits, no 0 before another digit
--     IsNumUpTo most bytes n   bytes are the number n: at most so many digits, no 0 before another digit
--     IsDigitLetter a      the letter a is from 1 to 9, so that its text is one digit
--     HasText w            the word w has a text: a root of at most four digits, letters from 1 to 9
--     letter_code a        the code of the letter's digit
--     letters_text z       where there are letters, a `.` and the letters as digits
--     word_text w          `x`, the root, and where there are letters a `.` and the letters as digits
--     row_text row         the `from` word, `>` and the `to` word
--     ended_text row       a row that isn't the last: its text and `;`
--     rows_text rows       the rows, joined by `;`
--     IsRoot bytes n       bytes are the number n, which isn't 0
--     AreLetters bytes z   bytes are the digits of the letters z, at least one
--     IsWord bytes w       bytes are the text of the word w
--     HasRowText row       both words of the row have a text
--     HasRowsText rows     each row has a text
--     IsRow bytes row      bytes are the text of the row
--     IsRows bytes rows    bytes are the text of the rows, at least one
--     HasForm most bytes   there is a byte, at most so many, and no 0 before another
use Rattle.std.specs.Prelude.{◌≡◌, ◌≢◌, ℕ, ◌+◌, ◌<◌, ◌≤◌, ◌^◌, List, [], ◌∷◌, ◌++◌, All, length, slice_index, codes, decimal, map}
use Rattle.ht_word.specs.declared.word.Word.{Word}
use Rattle.ht_pair.specs.declared.row.Row.{Row}

pub record IsNum (bytes : List ℕ) (n : ℕ) : Type 0 where
  pub small : n < 10 ^ 4
  pub is : bytes ≡ decimal n

pub record IsNumUpTo (most : ℕ) (bytes : List ℕ) (n : ℕ) : Type 0 where
  pub small : n < 10 ^ most
  pub is : bytes ≡ decimal n

abbrev pub IsDigitLetter : ℕ → Type 0
IsDigitLetter a = (1 ≤ a) × (a ≤ 9)

pub record HasText (w : Word) : Type 0 where
  pub root_low : 1 ≤ w.root
  pub root_high : w.root < 10 ^ 4
  pub letters : All IsDigitLetter w.letters

pub record HasRowText (row : Row) : Type 0 where
  pub from : HasText row.from
  pub to : HasText row.to

abbrev pub HasRowsText : List Row → Type 0
HasRowsText rows = All HasRowText rows

abbrev pub letter_code : ℕ → ℕ
letter_code a = a + 48

abbrev pub letters_text : List ℕ → List ℕ
letters_text [] = []
letters_text (a ∷ z) = codes "." ++ map letter_code (a ∷ z)

abbrev pub word_text : Word → List ℕ
word_text w = codes "x" ++ decimal w.root ++ letters_text w.letters

abbrev pub row_text : Row → List ℕ
row_text row = word_text row.from ++ codes ">" ++ word_text row.to

abbrev pub ended_text : Row → List ℕ
ended_text row = row_text row ++ codes ";"

abbrev pub rows_text : List Row → List ℕ
rows_text [] = []
rows_text (row ∷ []) = row_text row
rows_text (row ∷ next ∷ rows) = ended_text row ++ rows_text (next ∷ rows)

pub record IsRoot (bytes : List ℕ) (n : ℕ) : Type 0 where
  pub low : 1 ≤ n
  pub is_num : IsNum bytes n

pub record AreLetters (bytes z : List ℕ) : Type 0 where
  pub some : z ≢ []
  pub letters : All IsDigitLetter z
  pub is : bytes ≡ map letter_code z

pub record IsWord (bytes : List ℕ) (w : Word) : Type 0 where
  pub has_text : HasText w
  pub is : bytes ≡ word_text w

pub record IsRow (bytes : List ℕ) (row : Row) : Type 0 where
  pub has_text : HasRowText row
  pub is : bytes ≡ row_text row

pub record IsRows (bytes : List ℕ) (rows : List Row) : Type 0 where
  pub some : rows ≢ []
  pub have_texts : HasRowsText rows
  pub is : bytes ≡ rows_text rows

pub record HasForm (most : ℕ) (bytes : List ℕ) : Type 0 where
  pub some : 0 < length bytes
  pub few : length bytes ≤ most
  pub first : slice_index bytes 0 ≡ 48 → length bytes ≡ 1
