-- Conjugacy, over pairs of any size, and power conjugacy (Barker, Duncan and Robertson 2016), here of powers that
-- are not the identity.
--
--     Conjugates shape h a b             h conjugates a into b: a and then h is h and then b
--     AreConjugate shape a b             some pair conjugates a into b
--     ArePowerConjugate shape a b i j    the i-th power of a and the j-th of b are conjugate, and neither is the identity
use Rattle.std.specs.Prelude.{◌≡◌, ℤ, List}
use Rattle.ht_word.specs.declared.word.Word.{Word}
use Rattle.ht_word.specs.declared.shape.Shape.{Shape}
use Rattle.ht_word.specs.Words.{IsWordOf}
use Rattle.ht_pair.specs.declared.row.Row.{Row}
use Rattle.ht_pair.specs.Pairs.{IsPair, identity}
use Rattle.ht_pair.specs.Actions.{Moves, Alike}
use Rattle.ht_pair.specs.Products.{IsPower}

pub record Conjugates (shape : Shape) (h a b : List Row) : Type 0 where
  pub pair : IsPair shape h
  pub commutes : (u u' v v' w : Word) → IsWordOf shape u → Moves a u u' → Moves h u' v' → Moves h u v → Moves b v w → w ≡ v'

pub record AreConjugate (shape : Shape) (a b : List Row) : Type 0 where
  pub by : List Row
  pub conjugates : Conjugates shape by a b

pub record ArePowerConjugate (shape : Shape) (a b : List Row) (i j : ℤ) : Type 0 where
  pub first : List Row
  pub second : List Row
  pub first_power : IsPower shape a i first
  pub second_power : IsPower shape b j second
  pub first_moves : ¬ Alike shape first (identity shape)
  pub second_moves : ¬ Alike shape second (identity shape)
  pub conjugate : AreConjugate shape first second
