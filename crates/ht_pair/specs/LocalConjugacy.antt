-- Conjugating on a part. This project's own.
--
--     ConjugatesOn shape h a V b W    the `from` words of h cover V, its `to` words cover W, and on the words under V a and then h
--                                     is h and then b
use Rattle.std.specs.Prelude.{◌≡◌, List}
use Rattle.ht_word.specs.declared.word.Word.{Word}
use Rattle.ht_word.specs.declared.shape.Shape.{Shape}
use Rattle.ht_word.specs.Words.{IsWordOf, IsUnderSome}
use Rattle.ht_pair.specs.declared.row.Row.{Row}
use Rattle.ht_pair.specs.Bases.{Covers}
use Rattle.ht_pair.specs.Pairs.{from_words, to_words}
use Rattle.ht_pair.specs.Actions.{Moves}

pub record ConjugatesOn (shape : Shape) (h a : List Row) (V : List Word) (b : List Row) (W : List Word) : Type 0 where
  pub from : Covers shape (from_words h) V
  pub to : Covers shape (to_words h) W
  pub commutes : (u u' v v' w : Word) → IsWordOf shape u → IsUnderSome u V → Moves a u u' → Moves h u' v' → Moves h u v → Moves b v w → w ≡ v'
