-- Joins: places of two words of X that p joins. X is the quasinormal basis of p.
--
--     IsMarkedInfinite shape p X marks  the words of X that are no cycle words are marked, and no others
--     IsInfiniteAbove shape p X u place the word of X at the place is a prefix of u, and no cycle word
--     IsJoin shape p X join             the words of X at its places are no cycle words, and p joins the first to the second
--     AreJoins shape p X joins          all joins, and nothing else
--     IsRowJoin shape p X row join      the words of the row are under those at its places, which are no cycle words
--     AreRowJoins shape p X rows joins  all such joins of the rows, and nothing else
use Rattle.std.specs.Prelude.{ℕ, ◌≡◌, ◌↔◌, Bool, List, length, Contains, Some, slice_get}
use Rattle.ht_word.specs.declared.word.Word.{Word}
use Rattle.ht_word.specs.declared.shape.Shape.{Shape}
use Rattle.ht_pair.specs.Atoms.{AreJoined}
use Rattle.ht_pair.specs.HeldBases.{IsPlaceAbove}
use Rattle.ht_pair.specs.Kinds.{IsCycleWord}
use Rattle.ht_pair.specs.declared.row.Row.{Row}
use Rattle.ht_quasi.specs.Rounds.{IsMarked}
use Rattle.ht_atoms.specs.declared.join.Join.{Join}

pub record IsMarkedInfinite (shape : Shape) (p : List Row) (X : List Word) (marks : List Bool) : Type 0 where
  pub as_many : length marks ≡ length X
  pub each : (place : ℕ) (x : Word) → slice_get X place ≡ Some x → IsMarked marks place ↔ ¬ IsCycleWord shape p x

pub record IsInfiniteAbove (shape : Shape) (p : List Row) (X : List Word) (u : Word) (place : ℕ) : Type 0 where
  pub found : IsPlaceAbove X u place
  pub infinite : ¬ IsCycleWord shape p found.word

pub record IsJoin (shape : Shape) (p : List Row) (X : List Word) (join : Join) : Type 0 where
  pub one : Word
  pub other : Word
  pub here : slice_get X join.first ≡ Some one
  pub there : slice_get X join.second ≡ Some other
  pub infinite : ¬ IsCycleWord shape p one × ¬ IsCycleWord shape p other
  pub joined : AreJoined shape p one other

abbrev pub AreJoins : Shape → List Row → List Word → List Join → Type 0
AreJoins shape p X joins = (join : Join) → Contains joins join ↔ IsJoin shape p X join

pub record IsRowJoin (shape : Shape) (p : List Row) (X : List Word) (row : Row) (join : Join) : Type 0 where
  pub from : IsInfiniteAbove shape p X row.from join.first
  pub to : IsInfiniteAbove shape p X row.to join.second

abbrev pub AreRowJoins : Shape → List Row → List Word → List Row → List Join → Type 0
AreRowJoins shape p X rows joins = (join : Join) → Contains joins join ↔ ((row : Row) × Contains rows row × IsRowJoin shape p X row join)
