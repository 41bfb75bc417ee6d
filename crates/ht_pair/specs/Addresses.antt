-- Addresses of words along attractors, by which orbits are told apart. This project's own. X is the quasinormal basis
-- of p.
--
--     BelongTogether shape p x y     some power carries x to a word under y
--     IsAddress shape p X u x z k    the k-th power carries u to x · z; x is the least attractor of X of those that belong
--                                    together, and z doesn't begin with the letters of x
use Rattle.std.specs.Prelude.{ℕ, ℤ, ◌≢◌, List, ◌++◌, Contains}
use Rattle.std.specs.declared.cmp.Ordering.TheVariants.{Less}
use Rattle.ht_word.specs.declared.word.Word.{Word}
use Rattle.ht_word.specs.declared.shape.Shape.{Shape}
use Rattle.ht_word.specs.Words.{◌·◌, word_cmp, IsUnder}
use Rattle.ht_pair.specs.declared.row.Row.{Row}
use Rattle.ht_pair.specs.Steps.{Carries}
use Rattle.ht_pair.specs.Kinds.{IsAttractor, IsAttractorWord}

pub record BelongTogether (shape : Shape) (p : List Row) (x y : Word) : Type 0 where
  pub steps : ℤ
  pub to : Word
  pub carries : Carries shape p steps x to
  pub under : IsUnder to y

pub record IsAddress (shape : Shape) (p : List Row) (X : List Word) (u x : Word) (z : List ℕ) (k : ℤ) : Type 0 where
  pub listed : Contains X x
  pub steps : ℕ
  pub by : List ℕ
  pub attractor : IsAttractor shape p x steps by
  pub least : (y : Word) → Contains X y → IsAttractorWord shape p y → BelongTogether shape p x y → word_cmp y x ≢ Less
  pub carries : Carries shape p k u (x · z)
  pub short : (rest : List ℕ) → z ≢ by ++ rest
