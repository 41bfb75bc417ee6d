-- Marks beside the words of a basis, and the classes that two lists of marks tell.
--
--     AreMarks W X marks            the words of X that are in the list W are marked, and no others
--     told stays comes              the class of a word by whether it is a `from` word and whether it is a `to` word
--     AreClassesBy stays comes classes  each class is told by the marks at its place
use Rattle.std.specs.Prelude.{ℕ, ◌≡◌, ◌<◌, ◌↔◌, Bool, IsTrue, List, length, slice_index_or, Contains, cond}
use Rattle.ht_word.specs.declared.word.Word.{Word}
use Rattle.ht_quasi.specs.declared.quasi.Class.{Class}
use Rattle.ht_quasi.specs.declared.quasi.Class.TheVariants.{Splits, Joined, Plain}

pub record AreMarks (W X : List Word) (marks : List Bool) : Type 0 where
  pub as_many : length marks ≡ length X
  pub each : (place : ℕ) (x : Word) (mark : Bool) → place < length X → IsTrue (slice_index_or marks place mark) ↔ Contains W (slice_index_or X place x)

abbrev pub told : Bool → Bool → Class
told stays comes = cond stays (cond comes Plain Joined) Splits

pub record AreClassesBy (stays comes : List Bool) (classes : List Class) : Type 0 where
  pub each : (place : ℕ) (first second : Bool) (class : Class) → place < length classes → slice_index_or classes place class ≡ told (slice_index_or stays place first) (slice_index_or comes place second)
