-- The image of a word under a power: which letters behind the word lead to which word. This project's own.
--
--     Entry                     letters behind a word, and the word that they lead to
--     IsInOrder L               the entries are in order of their letters
--     words_behind u L          u with the letters of each entry
--     IsMerged shape L          no z and v have all n entries z1 to v1, z2 to v2, and so on
--     IsImage shape p k u L     the words behind u cover u, and the k-th power carries each of them to the word of its entry;
--                               the entries are in order and merged
use Rattle.std.specs.Prelude.{ℕ, ℤ, ◌≡◌, ◌≤◌, List, [], ◌∷◌, ◌++◌, map, All, AllPairs, Contains}
use Rattle.std.specs.Ordering.{nat_cmp}
use Rattle.std.specs.Cmp.Lexicographic.{slice_cmp}
use Rattle.std.specs.declared.cmp.Ordering.TheVariants.{Less}
use Rattle.ht_word.specs.declared.word.Word.{Word}
use Rattle.ht_word.specs.declared.shape.Shape.{Shape}
use Rattle.ht_word.specs.Words.{◌·◌, child}
use Rattle.ht_pair.specs.declared.row.Row.{Row}
use Rattle.ht_pair.specs.Bases.{Covers}
use Rattle.ht_pair.specs.Steps.{Carries}

pub record Entry : Type 0 where
  pub letters : List ℕ
  pub word : Word

abbrev pub IsInOrder : List Entry → Type 0
IsInOrder L = AllPairs (λ (d : Entry) (e : Entry). slice_cmp nat_cmp d.letters e.letters ≡ Less) L

abbrev pub words_behind : Word → List Entry → List Word
words_behind u L = map (λ (e : Entry). u · e.letters) L

abbrev pub IsMerged : Shape → List Entry → Type 0
IsMerged shape L = (z : List ℕ) (v : Word) → ¬ ((a : ℕ) → 1 ≤ a → a ≤ shape.n → Contains L (record { letters = z ++ a ∷ []; word = child v a }))

pub record IsImage (shape : Shape) (p : List Row) (k : ℤ) (u : Word) (L : List Entry) : Type 0 where
  pub order : IsInOrder L
  pub covers : Covers shape (words_behind u L) (u ∷ [])
  pub carries : All (λ (e : Entry). Carries shape p k (u · e.letters) e.word) L
  pub merged : IsMerged shape L
