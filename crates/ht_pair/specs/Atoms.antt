-- Atoms: the finest pieces of the infinite part that p keeps. This project's own. X is the quasinormal basis of p.
--
--     IsInfiniteWord shape p X x    a word of X that is no cycle word
--     AreJoined shape p x y         p carries some word under x to a word under y
--     AreLinked shape p X k x y     a chain of k joined words of the infinite part, taken in either direction, leads from x to y
--     IsAtom shape p X places       the places in X of all words that chains reach from one word, in ascending order
--     words_at X places             the words of X at the places
use Rattle.std.specs.Prelude.{ℕ, zero, suc, pos, ◌≡◌, ◌<◌, ◌⊎◌, ◌↔◌, Some, List, Contains, AllPairs, slice_get, flat_map, option_to_list}
use Rattle.ht_word.specs.declared.word.Word.{Word}
use Rattle.ht_word.specs.declared.shape.Shape.{Shape}
use Rattle.ht_word.specs.Words.{IsUnder}
use Rattle.ht_pair.specs.declared.row.Row.{Row}
use Rattle.ht_pair.specs.Steps.{Carries}
use Rattle.ht_pair.specs.Kinds.{IsCycleWord}

abbrev pub IsInfiniteWord : Shape → List Row → List Word → Word → Type 0
IsInfiniteWord shape p X x = Contains X x × ¬ IsCycleWord shape p x

pub record AreJoined (shape : Shape) (p : List Row) (x y : Word) : Type 0 where
  pub from : Word
  pub to : Word
  pub under_first : IsUnder from x
  pub carries : Carries shape p (pos 1) from to
  pub under_second : IsUnder to y

abbrev pub AreLinked : Shape → List Row → List Word → ℕ → Word → Word → Type 0
AreLinked shape p X zero x y = x ≡ y
AreLinked shape p X (suc k) x y = (t : Word) × AreLinked shape p X k x t × IsInfiniteWord shape p X y × (AreJoined shape p t y ⊎ AreJoined shape p y t)

pub record IsAtom (shape : Shape) (p : List Row) (X : List Word) (places : List ℕ) : Type 0 where
  pub start : Word
  pub infinite : IsInfiniteWord shape p X start
  pub ascending : AllPairs (λ (i : ℕ) (j : ℕ). i < j) places
  pub same : (k : ℕ) → Contains places k ↔ ((x : Word) × (slice_get X k ≡ Some x) × (j : ℕ) × AreLinked shape p X j start x)

abbrev pub words_at : List Word → List ℕ → List Word
words_at X places = flat_map (λ k. option_to_list (slice_get X k)) places
