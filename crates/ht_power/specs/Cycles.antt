-- The longest cycle of a basis.
--
--     IsLongest shape p X m   m is the length of a longest cycle in X, 0 where there is none
use Rattle.std.specs.Prelude.{ℕ, ◌≡◌, ◌≤◌, ◌⊎◌, List, Contains}
use Rattle.ht_word.specs.declared.word.Word.{Word}
use Rattle.ht_word.specs.declared.shape.Shape.{Shape}
use Rattle.ht_pair.specs.declared.row.Row.{Row}
use Rattle.ht_pair.specs.Kinds.{IsCycle}

pub record IsLongest (shape : Shape) (p : List Row) (X : List Word) (m : ℕ) : Type 0 where
  pub reached : (m ≡ 0) ⊎ ((x : Word) × Contains X x × IsCycle shape p x m)
  pub most : (x : Word) (k : ℕ) → Contains X x → IsCycle shape p x k → k ≤ m
