-- Where a part of an element is larger than an element may be.
--
--     IsLargePart shape p X rows letters   of the periodic part of p and its infinite part, in this order, one is large, and the
--                                          first such has these numbers
use Rattle.std.specs.Prelude.{ℕ, List, [], ◌∷◌}
use Rattle.ht_word.specs.declared.word.Word.{Word}
use Rattle.ht_word.specs.declared.shape.Shape.{Shape}
use Rattle.ht_pair.specs.declared.row.Row.{Row}
use Rattle.ht_pair.specs.Parts.{HasParts}
use Rattle.ht_pair.specs.PowerSizes.{IsFirstLargeOf}

pub record IsLargePart (shape : Shape) (p : List Row) (X : List Word) (rows letters : ℕ) : Type 0 where
  pub first : List Row
  pub second : List Row
  pub parts : HasParts shape p X first second
  pub large : IsFirstLargeOf shape (first ∷ second ∷ []) rows letters
