-- The words under the quasinormal basis X of p that one step carries to no word under it: the inner nodes of the rows of what one step carries under X.
--
--     IsInner shape p X u           u is under X, and p carries it to no word under X
--     AreInner shape p X words      all these words, each once, in ascending order
--     IsLeftmost u y                y is u with letters 1, at least one, behind it
--     AreAbove X y words            all words under X from which letters 1 alone, at least one, lead to y, in ascending order
--     IsTrailing letters count      the letters end with the letter 1 just so many times
use Rattle.std.specs.Prelude.{ℕ, pos, ◌≡◌, ◌≤◌, ◌↔◌, List, ◌++◌, replicate, Contains}
use Rattle.ht_word.specs.declared.word.Word.{Word}
use Rattle.ht_word.specs.declared.shape.Shape.{Shape}
use Rattle.ht_word.specs.Words.{◌·◌, IsWordOf, IsUnderSome, IsAscending}
use Rattle.ht_pair.specs.declared.row.Row.{Row}
use Rattle.ht_pair.specs.SemiNormal.{CarriesUnder}

pub record IsInner (shape : Shape) (p : List Row) (X : List Word) (u : Word) : Type 0 where
  pub word : IsWordOf shape u
  pub under : IsUnderSome u X
  pub leaves : ¬ CarriesUnder shape p (pos 1) u X

pub record AreInner (shape : Shape) (p : List Row) (X words : List Word) : Type 0 where
  pub ascending : IsAscending words
  pub same : (u : Word) → Contains words u ↔ IsInner shape p X u

pub record IsLeftmost (u y : Word) : Type 0 where
  pub count : ℕ
  pub positive : 1 ≤ count
  pub whole : y ≡ u · replicate count 1

pub record AreAbove (X : List Word) (y : Word) (words : List Word) : Type 0 where
  pub ascending : IsAscending words
  pub same : (u : Word) → Contains words u ↔ (IsUnderSome u X × IsLeftmost u y)

pub record IsTrailing (letters : List ℕ) (count : ℕ) : Type 0 where
  pub front : List ℕ
  pub whole : letters ≡ front ++ replicate count 1
  pub most : (z : List ℕ) (j : ℕ) → letters ≡ z ++ replicate j 1 → j ≤ count
