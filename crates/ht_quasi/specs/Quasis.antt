-- What one step of a pair does to the words of a basis: which are carried under it, and from and to which words.
-- This project's own.
--
--     kept X                        the rows from each word of X to itself
--     IsYOf shape p X y             a word under X is under the `from` words of the rows y just where p carries it to a word
--                                   under X; these words are a basis, in ascending order, and p carries each to its `to` word
--     HasClass shape p X x class    x splits: p carries it to no word under X; x is joined: the power -1 carries it to no word
--                                   under X; x is plain: both powers carry it to words under X
--     AreClasses shape p X classes  each word of X has the class at its place
--     IsQuasi shape p X y classes   X is the quasinormal basis of p, with its rows and classes; no word of it both splits and is joined
use Rattle.std.specs.Prelude.{ℕ, pos, negsuc, ◌≡◌, ◌↔◌, ◌⊎◌, Some, List, length, map, slice_get, All}
use Rattle.ht_word.specs.declared.word.Word.{Word}
use Rattle.ht_word.specs.declared.shape.Shape.{Shape}
use Rattle.ht_word.specs.Words.{IsWordOf, IsUnderSome, IsAscending}
use Rattle.ht_pair.specs.declared.row.Row.{Row}
use Rattle.ht_pair.specs.Bases.{IsBasis, IsAllUnder}
use Rattle.ht_pair.specs.Pairs.{from_words, to_words}
use Rattle.ht_pair.specs.Steps.{Carries}
use Rattle.ht_pair.specs.SemiNormal.{CarriesUnder, IsQuasinormal}
use Rattle.ht_quasi.specs.declared.quasi.Class.{Class}
use Rattle.ht_quasi.specs.declared.quasi.Class.TheVariants.{Splits, Joined, Plain}

abbrev pub kept : List Word → List Row
kept X = map (λ x. record { from = x; to = x }) X

pub record IsYOf (shape : Shape) (p : List Row) (X : List Word) (y : List Row) : Type 0 where
  pub basis : IsBasis shape (from_words y)
  pub ascending : IsAscending (from_words y)
  pub carried : (u : Word) → IsWordOf shape u → IsUnderSome u X → IsUnderSome u (from_words y) ↔ CarriesUnder shape p (pos 1) u X
  pub to : All (λ (row : Row). Carries shape p (pos 1) row.from row.to) y
  pub from_under : IsAllUnder (from_words y) X
  pub to_under : IsAllUnder (to_words y) X

abbrev pub HasClass : Shape → List Row → List Word → Word → Class → Type 0
HasClass shape p X x Splits = ¬ CarriesUnder shape p (pos 1) x X
HasClass shape p X x Joined = ¬ CarriesUnder shape p (negsuc 0) x X
HasClass shape p X x Plain = CarriesUnder shape p (pos 1) x X × CarriesUnder shape p (negsuc 0) x X

pub record AreClasses (shape : Shape) (p : List Row) (X : List Word) (classes : List Class) : Type 0 where
  pub as_many : length classes ≡ length X
  pub each : (place : ℕ) (x : Word) (class : Class) → slice_get X place ≡ Some x → slice_get classes place ≡ Some class → HasClass shape p X x class

pub record IsQuasi (shape : Shape) (p : List Row) (X : List Word) (y : List Row) (classes : List Class) : Type 0 where
  pub least : IsQuasinormal shape p X
  pub rows : IsYOf shape p X y
  pub classified : AreClasses shape p X classes
  pub one_side : All (λ x. CarriesUnder shape p (pos 1) x X ⊎ CarriesUnder shape p (negsuc 0) x X) X
