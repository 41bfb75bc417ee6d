-- Words of a shape (n, r), after Higman 1974: a root from 1 to r, and letters from 1 to n behind it.
--
--     IsLetter shape a       a is a letter of the shape
--     IsLetters shape z      z is a list of letters of the shape
--     IsWordOf shape u       u is a word of the shape
--     u · z                  u with the letters z after it
--     child u a              u with one more letter
--     root_word root         the root without letters
--     IsUnder u v            v is a prefix of u
--     IsUnderSome u W        u is under one of the words W
--     word_cmp u v           by root, then letter by letter, a proper prefix first
--     IsAscending W          each word is before all later ones
use Rattle.std.specs.Prelude.{ℕ, ◌≡◌, ◌≤◌, List, [], ◌∷◌, ◌++◌, All, Contains, AllPairs}
use Rattle.std.specs.Ordering.{nat_cmp, ordering_then}
use Rattle.std.specs.Cmp.Lexicographic.{slice_cmp}
use Rattle.std.specs.declared.cmp.Ordering.{Ordering}
use Rattle.std.specs.declared.cmp.Ordering.TheVariants.{Less}
use Rattle.ht_word.specs.declared.word.Word.{Word}
use Rattle.ht_word.specs.declared.shape.Shape.{Shape}

infixl 70 ◌·◌
abbrev pub IsLetter : Shape → ℕ → Type 0
IsLetter shape a = (1 ≤ a) × (a ≤ shape.n)

abbrev pub IsLetters : Shape → List ℕ → Type 0
IsLetters shape z = All (IsLetter shape) z

pub record IsWordOf (shape : Shape) (u : Word) : Type 0 where
  pub root_low : 1 ≤ u.root
  pub root_high : u.root ≤ shape.r
  pub letters : IsLetters shape u.letters

abbrev pub ◌·◌ : Word → List ℕ → Word
u · z = record { root = u.root; letters = u.letters ++ z }

abbrev pub child : Word → ℕ → Word
child u a = u · (a ∷ [])

abbrev pub root_word : ℕ → Word
root_word root = record { root = root; letters = [] }

pub record IsUnder (u v : Word) : Type 0 where
  pub rest : List ℕ
  pub is : u ≡ v · rest

pub record IsUnderSome (u : Word) (W : List Word) : Type 0 where
  pub above : Word
  pub listed : Contains W above
  pub under : IsUnder u above

abbrev pub word_cmp : Word → Word → Ordering
word_cmp u v = ordering_then (nat_cmp u.root v.root) (slice_cmp nat_cmp u.letters v.letters)

abbrev pub IsAscending : List Word → Type 0
IsAscending W = AllPairs (λ u v. word_cmp u v ≡ Less) W
