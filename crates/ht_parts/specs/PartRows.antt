-- The rows of a part of an element. P and Q are properties of the words of the basis X: each word has one of them.
--
--     IsOther shape p x            x is no cycle word
--     IsUnderSuch P X u            u is under a word of X with the property
--     MovesWithin p X P Q u v      p moves u to v, where u is under a word with P; v is u, where u is under one with Q
--     ArePartRows p X P Q U rows   rows from the words of U, each to the word that it is moved to so
use Rattle.std.specs.Prelude.{◌≡◌, ◌⊎◌, List, Contains, All}
use Rattle.ht_word.specs.declared.word.Word.{Word}
use Rattle.ht_word.specs.declared.shape.Shape.{Shape}
use Rattle.ht_word.specs.Words.{IsUnder}
use Rattle.ht_pair.specs.declared.row.Row.{Row}
use Rattle.ht_pair.specs.Actions.{Moves}
use Rattle.ht_pair.specs.Kinds.{IsCycleWord}
use Rattle.ht_pair.specs.Pairs.{from_words}

abbrev pub IsOther : Shape → List Row → Word → Type 0
IsOther shape p x = ¬ IsCycleWord shape p x

pub record IsUnderSuch (P : Word → Type 0) (X : List Word) (u : Word) : Type 0 where
  pub above : Word
  pub listed : Contains X above
  pub such : P above
  pub under : IsUnder u above

abbrev pub MovesWithin : List Row → List Word → (Word → Type 0) → (Word → Type 0) → Word → Word → Type 0
MovesWithin p X P Q u v = (IsUnderSuch P X u × Moves p u v) ⊎ (IsUnderSuch Q X u × (u ≡ v))

pub record ArePartRows (p : List Row) (X : List Word) (P Q : Word → Type 0) (U : List Word) (rows : List Row) : Type 0 where
  pub from : from_words rows ≡ U
  pub moved : All (λ (row : Row). MovesWithin p X P Q row.from row.to) rows
