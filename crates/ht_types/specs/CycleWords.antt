-- Words under cycle words of a basis X of p (Higman 1974).
--
--     IsUnderCycle shape p X u m   u is under a cycle word of X, and from 1 on the m-th power is the first that carries that to itself
use Rattle.std.specs.Prelude.{ℕ, List, Contains}
use Rattle.ht_word.specs.declared.word.Word.{Word}
use Rattle.ht_word.specs.declared.shape.Shape.{Shape}
use Rattle.ht_word.specs.Words.{IsUnder}
use Rattle.ht_pair.specs.declared.row.Row.{Row}
use Rattle.ht_pair.specs.Kinds.{IsCycle}

pub record IsUnderCycle (shape : Shape) (p : List Row) (X : List Word) (u : Word) (m : ℕ) : Type 0 where
  pub above : Word
  pub listed : Contains X above
  pub cycle : IsCycle shape p above m
  pub under : IsUnder u above
