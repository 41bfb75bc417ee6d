-- What contracts see of an element.
--
--     ElementValue            the shape, and the rows of the canonical pair
--     IsElement shape rows    a canonical pair within the limits: at most 8,192 rows, at most 1,024 letters in a word
use Rattle.std.specs.Prelude.{◌≤◌, List, length}
use Rattle.ht_word.specs.declared.shape.Shape.{Shape}
use Rattle.ht_pair.specs.declared.row.Row.{Row}
use Rattle.ht_pair.specs.Pairs.{longest_of}
use Rattle.ht_pair.specs.Actions.{IsCanonical}

pub record ElementValue : Type 0 where
  pub shape : Shape
  pub rows : List Row

pub record IsElement (shape : Shape) (rows : List Row) : Type 0 where
  pub canonical : IsCanonical shape rows
  pub open canonical use *
  pub few_rows : length rows ≤ 8192
  pub short_words : longest_of rows ≤ 1024
