-- Bases in ascending order, as a program holds them, and expansions of their words.
--
--     BasisValue                      what contracts see of a held basis: the shape and the words
--     IsHeldBasis shape X             a basis in ascending order
--     children shape x                x1 to xn
--     expanded_at shape X marks       each marked word of X gives way to its children, in its place
--     IsExpandedAt place old new      in the basis the word at the place gives way to its children, in its place
--     IsPlaceAbove X u place          the word of X at the place, counted from 0, is a prefix of u
use Rattle.std.specs.Prelude.{ℕ, ◌≡◌, ◌+◌, Bool, List, [], ◌∷◌, ◌++◌, take, drop, cond, Some, slice_get}
use Rattle.ht_word.specs.declared.word.Word.{Word}
use Rattle.ht_word.specs.declared.shape.Shape.{Shape}
use Rattle.ht_word.specs.Words.{child, IsAscending, IsUnder}
use Rattle.ht_pair.specs.Bases.{IsBasis}
use Rattle.ht_pair.specs.Merges.{each_to}

pub record BasisValue : Type 0 where
  pub shape : Shape
  pub words : List Word

pub record IsHeldBasis (shape : Shape) (X : List Word) : Type 0 where
  pub basis : IsBasis shape X
  pub ascending : IsAscending X

abbrev pub children : Shape → Word → List Word
children shape x = each_to (child x) shape.n

abbrev pub expanded_at : Shape → List Word → List Bool → List Word
expanded_at shape [] marks = []
expanded_at shape (x ∷ X) [] = x ∷ X
expanded_at shape (x ∷ X) (mark ∷ marks) = cond mark (children shape x) (x ∷ []) ++ expanded_at shape X marks

pub record IsExpandedAt (place : ℕ) (old new : BasisValue) : Type 0 where
  pub word : Word
  pub here : slice_get old.words place ≡ Some word
  pub words : new.words ≡ take place old.words ++ children old.shape word ++ drop (place + 1) old.words
  pub shape : new.shape ≡ old.shape

pub record IsPlaceAbove (X : List Word) (u : Word) (place : ℕ) : Type 0 where
  pub word : Word
  pub here : slice_get X place ≡ Some word
  pub above : IsUnder u word
