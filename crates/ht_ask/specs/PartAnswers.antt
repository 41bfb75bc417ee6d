-- The two parts of an element, which a line binds to names. X is its quasinormal basis.
--
--     ArePartsOf shape budget p first second    X fits the budget, and the two are the canonical pairs of the parts of p, neither of them large
--     HasLargePart shape budget p rows letters  X fits the budget, one of the parts is large, and the first such has these numbers
use Rattle.std.specs.Prelude.{ℕ, List}
use Rattle.ht_word.specs.declared.word.Word.{Word}
use Rattle.ht_word.specs.declared.shape.Shape.{Shape}
use Rattle.ht_pair.specs.declared.row.Row.{Row}
use Rattle.ht_pair.specs.Actions.{IsCanonical}
use Rattle.ht_pair.specs.Bases.{TakesAtMost}
use Rattle.ht_pair.specs.Parts.{HasParts}
use Rattle.ht_pair.specs.SemiNormal.{IsQuasinormal}
use Rattle.ht_parts.specs.LargeParts.{IsLargePart}

pub record ArePartsOf (shape : Shape) (budget : ℕ) (p first second : List Row) : Type 0 where
  pub basis : List Word
  pub quasinormal : IsQuasinormal shape p basis
  pub within : TakesAtMost shape basis budget
  pub parts : HasParts shape p basis first second
  pub first_canonical : IsCanonical shape first
  pub second_canonical : IsCanonical shape second
  pub small : (rows letters : ℕ) → ¬ IsLargePart shape p basis rows letters

pub record HasLargePart (shape : Shape) (budget : ℕ) (p : List Row) (rows letters : ℕ) : Type 0 where
  pub basis : List Word
  pub quasinormal : IsQuasinormal shape p basis
  pub within : TakesAtMost shape basis budget
  pub large : IsLargePart shape p basis rows letters
