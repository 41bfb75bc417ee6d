-- Files of elements: a head, two numbers, the number of rows, a line for each row, and `end`.
--
--     row_lines rows               a line for each row
--     file_text n r rows           the text of a file, with the line feed behind `end`
--     IsFile bytes n r rows        the bytes are a file of these numbers and rows; the last line feed may be missing
--     IsFileText bytes             the bytes are a file
--     ended lines                  the lines, each with its line feed
--     AreOneLine lines             no line holds a line feed
--     LeadsFile bytes k            the first k lines of the bytes are whole, and they are the first k lines of some file
--     IsFormFault bytes l          0 for more than 4,194,304 bytes; else the bytes are no file, and l is 1 plus the greatest number of leading whole lines that lead some file
--     IsFileOf bytes shape rows    at most 4,194,304 bytes that are a file of the shape's numbers with these rows
--     IsOtherShape bytes shape     at most 4,194,304 bytes that are a file of other numbers than the shape's
--     IsRowsRefused bytes shape why   at most 4,194,304 bytes that are a file of the shape's numbers with rows that are no element, and why
--     IsFileFault bytes shape fault   what a fault says of the bytes; want of memory says nothing
use Rattle.std.specs.Prelude.{◌≡◌, ◌≢◌, ℕ, zero, suc, ◌<◌, ◌≤◌, ◌^◌, ◌⊎◌, List, ◌++◌, All, ⊤, length, codes, decimal}
use Rattle.std.specs.List.{flat_map}
use Rattle.ht_word.specs.declared.shape.Shape as shapes
use Rattle.ht_pair.specs.declared.row.Row.{Row}
use Rattle.ht_pair.specs.declared.fault.RowsFault.{RowsFault}
use Rattle.ht_pair.specs.declared.fault.RowsFault.TheVariants as rows_fault
use Rattle.ht_pair.specs.RowsFaults.{IsRowsFault}
use Rattle.ht_text.specs.Texts.{HasRowsText, row_text}
use Rattle.ht_text.specs.declared.fault.FileFault.{FileFault}
use Rattle.ht_text.specs.declared.fault.FileFault.TheVariants.{Form, Shape, Rows, NoMemory}

abbrev pub row_lines : List Row → List ℕ
row_lines rows = flat_map (λ row. row_text row ++ codes "\n") rows

abbrev pub file_text : ℕ → ℕ → List Row → List ℕ
file_text n r rows =
    codes "ht-element 1\ngroup " ++ decimal n ++ codes " " ++ decimal r ++ codes "\nrows " ++ decimal (length rows) ++ codes "\n" ++ row_lines rows ++ codes "end\n"

pub record IsFile (bytes : List ℕ) (n r : ℕ) (rows : List Row) : Type 0 where
  pub n_small : n < 10 ^ 4
  pub r_small : r < 10 ^ 4
  pub some : 1 ≤ length rows
  pub few : length rows < 10 ^ 6
  pub have_texts : HasRowsText rows
  pub is : (bytes ≡ file_text n r rows) ⊎ (bytes ++ codes "\n" ≡ file_text n r rows)

pub record IsFileText (bytes : List ℕ) : Type 0 where
  pub n : ℕ
  pub r : ℕ
  pub rows : List Row
  pub is_file : IsFile bytes n r rows

abbrev pub ended : List (List ℕ) → List ℕ
ended lines = flat_map (λ line. line ++ codes "\n") lines

abbrev pub AreOneLine : List (List ℕ) → Type 0
AreOneLine lines = All (λ line. All (λ b. b ≢ 10) line) lines

pub record LeadsFile (bytes : List ℕ) (k : ℕ) : Type 0 where
  pub lines : List (List ℕ)
  pub one_line : AreOneLine lines
  pub number : length lines ≡ k
  pub rest : List ℕ
  pub are : bytes ≡ ended lines ++ rest
  pub more : List ℕ
  pub leads : IsFileText (ended lines ++ more)

abbrev pub IsFormFault : List ℕ → ℕ → Type 0
IsFormFault bytes zero = 4194304 < length bytes
IsFormFault bytes (suc k) = (length bytes ≤ 4194304) × ¬ IsFileText bytes × LeadsFile bytes k × ((j : ℕ) → LeadsFile bytes j → j ≤ k)

abbrev pub IsFileOf : List ℕ → shapes.Shape → List Row → Type 0
IsFileOf bytes shape rows = (length bytes ≤ 4194304) × IsFile bytes shape.n shape.r rows

pub record IsOtherShape (bytes : List ℕ) (shape : shapes.Shape) : Type 0 where
  pub short : length bytes ≤ 4194304
  pub n : ℕ
  pub r : ℕ
  pub rows : List Row
  pub is_file : IsFile bytes n r rows
  pub other : ¬ ((n ≡ shape.n) × (r ≡ shape.r))

pub record IsRowsRefused (bytes : List ℕ) (shape : shapes.Shape) (why : RowsFault) : Type 0 where
  pub rows : List Row
  pub is_file : IsFileOf bytes shape rows
  pub refused : IsRowsFault shape rows why
  pub not_memory : why ≢ rows_fault.NoMemory

abbrev pub IsFileFault : List ℕ → shapes.Shape → FileFault → Type 0
IsFileFault bytes shape (Form l) = IsFormFault bytes l
IsFileFault bytes shape Shape = IsOtherShape bytes shape
IsFileFault bytes shape (Rows why) = IsRowsRefused bytes shape why
IsFileFault bytes shape NoMemory = ⊤
