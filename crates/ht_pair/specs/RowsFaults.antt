-- Why rows are no element: a word outside the shape, a side that is no basis (Higman 1974), or an element that is too large.
--
--     IsRowOf shape row                both words of the row are of the shape
--     AreRowsOf shape rows             each row is of the shape
--     IsFirstForeign shape rows place  the row at the place, counted from 1, is the first that isn't of the shape
--     IsFromFault shape rows           the rows are of the shape, and the `from` words aren't a basis
--     IsToFault shape rows             the `from` words are a basis, and the `to` words, of the shape too, aren't
--     IsRowsFault shape rows fault     what a fault says of the rows; want of memory says nothing
use Rattle.std.specs.Prelude.{◌≡◌, ℕ, suc, List, ◌∷◌, ◌++◌, length, All, ⊤}
use Rattle.ht_word.specs.declared.shape.Shape.{Shape}
use Rattle.ht_word.specs.Words.{IsWordOf}
use Rattle.ht_pair.specs.declared.row.Row.{Row}
use Rattle.ht_pair.specs.declared.fault.RowsFault.{RowsFault}
use Rattle.ht_pair.specs.declared.fault.RowsFault.TheVariants.{Foreign, FromNotBasis, ToNotBasis, Large, NoMemory}
use Rattle.ht_pair.specs.Bases.{IsBasis}
use Rattle.ht_pair.specs.Pairs.{IsPair, from_words, to_words}
use Rattle.ht_pair.specs.Sizes.{IsLarge}

pub record IsRowOf (shape : Shape) (row : Row) : Type 0 where
  pub from : IsWordOf shape row.from
  pub to : IsWordOf shape row.to

abbrev pub AreRowsOf : Shape → List Row → Type 0
AreRowsOf shape rows = All (IsRowOf shape) rows

pub record IsFirstForeign (shape : Shape) (rows : List Row) (place : ℕ) : Type 0 where
  pub before : List Row
  pub row : Row
  pub behind : List Row
  pub are : rows ≡ before ++ row ∷ behind
  pub of_shape : AreRowsOf shape before
  pub foreign : ¬ IsRowOf shape row
  pub place_is : place ≡ suc (length before)

pub record IsFromFault (shape : Shape) (rows : List Row) : Type 0 where
  pub of_shape : AreRowsOf shape rows
  pub from : ¬ IsBasis shape (from_words rows)

pub record IsToFault (shape : Shape) (rows : List Row) : Type 0 where
  pub of_shape : AreRowsOf shape rows
  pub from : IsBasis shape (from_words rows)
  pub to : ¬ IsBasis shape (to_words rows)

abbrev pub IsRowsFault : Shape → List Row → RowsFault → Type 0
IsRowsFault shape rows (Foreign place) = IsFirstForeign shape rows place
IsRowsFault shape rows FromNotBasis = IsFromFault shape rows
IsRowsFault shape rows ToNotBasis = IsToFault shape rows
IsRowsFault shape rows (Large count letters) = IsPair shape rows × IsLarge shape rows count letters
IsRowsFault shape rows NoMemory = ⊤
