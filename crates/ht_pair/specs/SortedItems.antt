-- Items in order of a word each, their head: a word is its own, and a row's is its word on a side.
--
--     head_cmp head a b                                the order of the heads of two items
--     AreSorted shape head items sorted is_basis       the same items; whether the heads are a basis, and then they ascend
use Rattle.std.specs.Prelude.{◌↔◌, Bool, IsTrue, List, map, IsPermutation}
use Rattle.std.specs.declared.cmp.Ordering.{Ordering}
use Rattle.ht_word.specs.declared.word.Word.{Word}
use Rattle.ht_word.specs.declared.shape.Shape.{Shape}
use Rattle.ht_word.specs.Words.{word_cmp, IsAscending}
use Rattle.ht_pair.specs.Bases.{IsBasis}

abbrev pub head_cmp : {T : Type 0} → (T → Word) → T → T → Ordering
head_cmp head a b = word_cmp (head a) (head b)

pub record AreSorted {T : Type 0} (shape : Shape) (head : T → Word) (items sorted : List T) (is_basis : Bool) : Type 0 where
  pub permuted : IsPermutation items sorted
  pub basis : IsTrue is_basis ↔ IsBasis shape (map head items)
  pub ascending : IsTrue is_basis → IsAscending (map head sorted)
