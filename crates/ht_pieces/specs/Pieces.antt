-- Pieces of the words: what is inside a list of words, and what a pair keeps. This project's own.
--
--     IsInside shape V u   u is a word of the shape, and behind enough letters it is under V, whichever letters they are
--     IsKept shape f D     words with the property D keep it with letters behind them; f moves them to such words alone, and moves no
--                          other words of the shape to such words
use Rattle.std.specs.Prelude.{ℕ, ◌≤◌, List, length}
use Rattle.ht_word.specs.declared.word.Word.{Word}
use Rattle.ht_word.specs.declared.shape.Shape.{Shape}
use Rattle.ht_word.specs.Words.{◌·◌, IsLetters, IsWordOf, IsUnderSome}
use Rattle.ht_pair.specs.declared.row.Row.{Row}
use Rattle.ht_pair.specs.Actions.{Moves}

pub record IsInside (shape : Shape) (V : List Word) (u : Word) : Type 0 where
  pub word : IsWordOf shape u
  pub letters : ℕ
  pub under : (y : List ℕ) → IsLetters shape y → letters ≤ length y → IsUnderSome (u · y) V

pub record IsKept (shape : Shape) (f : List Row) (D : Word → Type 0) : Type 0 where
  pub word : (u : Word) → D u → IsWordOf shape u
  pub extends : (u : Word) (z : List ℕ) → D u → IsLetters shape z → D (u · z)
  pub ahead : (u v : Word) → D u → Moves f u v → D v
  pub behind : (u v : Word) → D v → IsWordOf shape u → Moves f u v → D u
