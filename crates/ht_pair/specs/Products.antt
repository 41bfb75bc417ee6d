-- Products and powers. Elements act on the right: in a product of p and q, p comes first.
--
--     IsProduct shape p q s   s is a pair that moves words as p and then q do
--     IsPower shape p k s     s is a pair that moves words as k steps of p do; the inverse is the power -1
use Rattle.std.specs.Prelude.{◌≡◌, ℤ, List}
use Rattle.ht_word.specs.declared.word.Word.{Word}
use Rattle.ht_word.specs.declared.shape.Shape.{Shape}
use Rattle.ht_word.specs.Words.{IsWordOf}
use Rattle.ht_pair.specs.declared.row.Row.{Row}
use Rattle.ht_pair.specs.Pairs.{IsPair}
use Rattle.ht_pair.specs.Actions.{Moves}
use Rattle.ht_pair.specs.Steps.{Steps}

pub record IsProduct (shape : Shape) (p q s : List Row) : Type 0 where
  pub pair : IsPair shape s
  pub composed : (u v w w' : Word) → IsWordOf shape u → Moves p u v → Moves q v w → Moves s u w' → w ≡ w'

pub record IsPower (shape : Shape) (p : List Row) (k : ℤ) (s : List Row) : Type 0 where
  pub pair : IsPair shape s
  pub stepped : (u v w : Word) → IsWordOf shape u → Steps p k u v → Moves s u w → v ≡ w
