-- Letters with which two words flow under attractors. This project's own. X is the quasinormal basis of p.
--
--     AreExits shape p X u v letters   both u and v, with the letters behind them, flow under an attractor
use Rattle.std.specs.Prelude.{ℕ, List}
use Rattle.ht_word.specs.declared.word.Word.{Word}
use Rattle.ht_word.specs.declared.shape.Shape.{Shape}
use Rattle.ht_word.specs.Words.{◌·◌, IsLetters}
use Rattle.ht_pair.specs.declared.row.Row.{Row}
use Rattle.ht_flow.specs.Flowing.{FlowsUnder}

pub record AreExits (shape : Shape) (p : List Row) (X : List Word) (u v : Word) (letters : List ℕ) : Type 0 where
  pub of_shape : IsLetters shape letters
  pub first : FlowsUnder shape p X (u · letters)
  pub second : FlowsUnder shape p X (v · letters)
