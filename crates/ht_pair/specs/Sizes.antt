-- The size of an element, told from its canonical pair, and the limits that this program sets.
--
--     HasSize shape p rows letters    the canonical pair of p has these numbers: its rows, and the letters of its longest word
--     IsLarge shape p rows letters    p has these numbers, and they are more than 8,192 rows or more than 1,024 letters
use Rattle.std.specs.Prelude.{ℕ, ◌≡◌, ◌<◌, ◌⊎◌, List, length}
use Rattle.ht_word.specs.declared.shape.Shape.{Shape}
use Rattle.ht_pair.specs.declared.row.Row.{Row}
use Rattle.ht_pair.specs.Pairs.{longest_of}
use Rattle.ht_pair.specs.Actions.{IsCanonicalFor}

pub record HasSize (shape : Shape) (p : List Row) (rows letters : ℕ) : Type 0 where
  pub canonical : List Row
  pub is_canonical : IsCanonicalFor shape canonical p
  pub rows_is : rows ≡ length canonical
  pub letters_is : letters ≡ longest_of canonical

abbrev pub IsLarge : Shape → List Row → ℕ → ℕ → Type 0
IsLarge shape p rows letters = HasSize shape p rows letters × ((8192 < rows) ⊎ (1024 < letters))
