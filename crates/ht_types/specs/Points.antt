-- Points of words that a power lengthens by the same letters again and again: X is the quasinormal basis of the element.
--
--     HasPoint IsEnd X v k z   where k steps lengthen v by z, one word of X has v with some number of z behind it under it. It is an end, a number
--                              of whose rounds makes the k steps, with as many letters in each step as v
use Rattle.std.specs.Prelude.{ℕ, ◌≡◌, ◌*◌, List, length, Contains}
use Rattle.ht_word.specs.declared.word.Word.{Word}
use Rattle.ht_word.specs.Words.{◌·◌, IsUnder}
use Rattle.ht_pair.specs.Repeats.{repeated}

pub record HasPoint (IsEnd : Word → ℕ → List ℕ → Type 0) (X : List Word) (v : Word) (k : ℕ) (z : List ℕ) : Type 0 where
  pub word : Word
  pub listed : Contains X word
  pub times : ℕ
  pub under : IsUnder (v · repeated times z) word
  pub steps : ℕ
  pub by : List ℕ
  pub end : IsEnd word steps by
  pub rounds : ℕ
  pub divides : k ≡ rounds * steps
  pub rate : steps * length z ≡ k * length by
  pub only : (y : Word) (j : ℕ) → Contains X y → IsUnder (v · repeated j z) y → y ≡ word
