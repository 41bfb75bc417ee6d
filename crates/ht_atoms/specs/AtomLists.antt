-- The atoms of a pair p, as a list. X is the quasinormal basis of p.
--
--     AreAtoms shape p X atoms   all atoms, each as the places of its words, in order of their first places; so none stands twice
use Rattle.std.specs.Prelude.{ℕ, ◌≡◌, ◌<◌, Some, List, All, AllPairs, Contains, slice_get}
use Rattle.ht_word.specs.declared.word.Word.{Word}
use Rattle.ht_word.specs.declared.shape.Shape.{Shape}
use Rattle.ht_pair.specs.declared.row.Row.{Row}
use Rattle.ht_pair.specs.Atoms.{IsAtom}

pub record AreAtoms (shape : Shape) (p : List Row) (X : List Word) (atoms : List (List ℕ)) : Type 0 where
  pub each : All (IsAtom shape p X) atoms
  pub all : (places : List ℕ) → IsAtom shape p X places → Contains atoms places
  pub ordered : AllPairs (λ A B. (i j : ℕ) → slice_get A 0 ≡ Some i → slice_get B 0 ≡ Some j → i < j) atoms
