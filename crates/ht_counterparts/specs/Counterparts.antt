-- Counterparts: the atoms of two conjugate elements that a conjugator sends to one another. This project's own.
--
--     SendsInside shape h V W                wherever h moves a word of the shape, it is inside V just where it is moved inside W
--     AreCounterparts shape f X g Y h k l    k is an atom of f and l is one of g, and h sends what is inside k inside l, and nothing else
use Rattle.std.specs.Prelude.{ℕ, ◌↔◌, List}
use Rattle.ht_word.specs.Words.{IsWordOf}
use Rattle.ht_word.specs.declared.shape.Shape.{Shape}
use Rattle.ht_word.specs.declared.word.Word.{Word}
use Rattle.ht_pair.specs.Actions.{Moves}
use Rattle.ht_pair.specs.Atoms.{IsAtom, words_at}
use Rattle.ht_pair.specs.declared.row.Row.{Row}
use Rattle.ht_pieces.specs.Pieces.{IsInside}

pub record SendsInside (shape : Shape) (h : List Row) (V W : List Word) : Type 0 where
  pub same : (u v : Word) → IsWordOf shape u → Moves h u v → IsInside shape V u ↔ IsInside shape W v

pub record AreCounterparts (shape : Shape) (f : List Row) (X : List Word) (g : List Row) (Y : List Word) (h : List Row) (k l : List ℕ) : Type 0 where
  pub first : IsAtom shape f X k
  pub second : IsAtom shape g Y l
  pub sends : SendsInside shape h (words_at X k) (words_at Y l)
