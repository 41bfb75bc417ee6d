-- Value lists: a word for each long enough list of letters, and their composition with a power. This project's own.
--
--     IsValueList shape L           the words behind root 1 cover it; the entries are in order and merged, their words of the shape
--     Sends L t w                   for an entry z to v and letters y, t is z, y and w is v · y
--     IsFollowed shape L p k M      M is the value list L followed by the k-th power of p
use Rattle.std.specs.Prelude.{ℕ, ℤ, ◌≡◌, List, [], ◌∷◌, ◌++◌, All, Contains}
use Rattle.ht_word.specs.declared.word.Word.{Word}
use Rattle.ht_word.specs.declared.shape.Shape.{Shape}
use Rattle.ht_word.specs.Words.{◌·◌, root_word, IsWordOf, IsLetters}
use Rattle.ht_pair.specs.declared.row.Row.{Row}
use Rattle.ht_pair.specs.Bases.{Covers}
use Rattle.ht_pair.specs.Steps.{Steps}
use Rattle.ht_pair.specs.Images.{Entry, IsInOrder, words_behind, IsMerged}

pub record IsValueList (shape : Shape) (L : List Entry) : Type 0 where
  pub order : IsInOrder L
  pub covers : Covers shape (words_behind (root_word 1) L) (root_word 1 ∷ [])
  pub words : All (λ (e : Entry). IsWordOf shape e.word) L
  pub merged : IsMerged shape L

pub record Sends (L : List Entry) (t : List ℕ) (w : Word) : Type 0 where
  pub entry : Entry
  pub rest : List ℕ
  pub listed : Contains L entry
  pub from : t ≡ entry.letters ++ rest
  pub to : w ≡ entry.word · rest

pub record IsFollowed (shape : Shape) (L : List Entry) (p : List Row) (k : ℤ) (M : List Entry) : Type 0 where
  pub value_list : IsValueList shape M
  pub followed : (t : List ℕ) (w w' w'' : Word) → IsLetters shape t → Sends L t w → Steps p k w w' → Sends M t w'' → w' ≡ w''
