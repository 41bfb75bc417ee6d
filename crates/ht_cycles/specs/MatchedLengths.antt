-- Rows that match the cycles of some lengths, as the program gathers them. X is the quasinormal basis of f, and Y that of g.
--
--     AreOfLengths shape f X D P          P lists the words of X of cycles of a length with D, and each once
--     IsFollowedByRow shape f g rows row  one step leads to another of the rows, of f from the row's from word, of g from its to word
--     MatchLengths shape f X g Y D rows   the rows match the cycles of the lengths with D
use Rattle.std.specs.Prelude.{ℕ, pos, ◌≤◌, ◌+◌, List, length, Contains}
use Rattle.ht_word.specs.declared.word.Word.{Word}
use Rattle.ht_word.specs.declared.shape.Shape.{Shape}
use Rattle.ht_word.specs.Words.{IsUnderSome}
use Rattle.ht_pair.specs.declared.row.Row.{Row}
use Rattle.ht_pair.specs.Bases.{IsPrefixFree, Covers}
use Rattle.ht_pair.specs.Kinds.{IsCycle}
use Rattle.ht_pair.specs.Pairs.{from_words, to_words}
use Rattle.ht_pair.specs.Steps.{Carries}

pub record AreOfLengths (shape : Shape) (f : List Row) (X : List Word) (D : ℕ → Type 0) (P : List Word) : Type 0 where
  pub free : IsPrefixFree P
  pub listed : (x : Word) → Contains P x → Contains X x × (m : ℕ) × D m × IsCycle shape f x m
  pub all : (x : Word) (m : ℕ) → Contains X x → D m → IsCycle shape f x m → Contains P x

pub record IsFollowedByRow (shape : Shape) (f g rows : List Row) (row : Row) : Type 0 where
  pub next : Row
  pub listed : Contains rows next
  pub from : Carries shape f (pos 1) row.from next.from
  pub to : Carries shape g (pos 1) row.to next.to

pub record MatchLengths (shape : Shape) (f : List Row) (X : List Word) (g : List Row) (Y : List Word) (D : ℕ → Type 0) (rows : List Row) : Type 0 where
  pub first : List Word
  pub second : List Word
  pub first_are : AreOfLengths shape f X D first
  pub second_are : AreOfLengths shape g Y D second
  pub few : length rows ≤ length first + length second
  pub from : Covers shape (from_words rows) first
  pub to : Covers shape (to_words rows) second
  pub from_under : (u : Word) → Contains (from_words rows) u → IsUnderSome u first
  pub to_under : (v : Word) → Contains (to_words rows) v → IsUnderSome v second
  pub follows : (row : Row) → Contains rows row → IsFollowedByRow shape f g rows row
