-- The question whether two words share an orbit of an element, and its answers. X is its quasinormal basis.
--
--     AreAskedOf shape budget p u v X       both words are of the shape, and X fits the budget
--     TellsShare shape budget p u v answer  the element p gives this answer: the first word that isn't of the shape is refused, then the
--                                           first that isn't under X; for words under X it tells by which power they share their orbit, or that none does
use Rattle.std.specs.Prelude.{ℕ, ℤ, List, Option}
use Rattle.ht_word.specs.declared.word.Word.{Word}
use Rattle.ht_word.specs.declared.shape.Shape.{Shape}
use Rattle.ht_word.specs.Words.{IsWordOf, IsUnderSome}
use Rattle.ht_pair.specs.declared.row.Row.{Row}
use Rattle.ht_pair.specs.Bases.{TakesAtMost}
use Rattle.ht_pair.specs.SemiNormal.{IsQuasinormal}
use Rattle.ht_types.specs.Shares.{IsShare}
use Rattle.ht_answer.specs.declared.answer.Answer.{Answer}
use Rattle.ht_answer.specs.declared.answer.Answer.TheVariants as answer
use Rattle.ht_answer.specs.declared.answer.Refusal.TheVariants as refusal

pub record AreAskedOf (shape : Shape) (budget : ℕ) (p : List Row) (u v : Word) (X : List Word) : Type 0 where
  pub first : IsWordOf shape u
  pub second : IsWordOf shape v
  pub quasinormal : IsQuasinormal shape p X
  pub within : TakesAtMost shape X budget

pub data TellsShare (shape : Shape) (budget : ℕ) (p : List Row) (u v : Word) : Answer → Type 0 where
  first_foreign : ¬ IsWordOf shape u → TellsShare shape budget p u v (answer.Refused (refusal.Word 1))
  second_foreign : IsWordOf shape u → ¬ IsWordOf shape v → TellsShare shape budget p u v (answer.Refused (refusal.Word 2))
  first_above : (X : List Word) → AreAskedOf shape budget p u v X → ¬ IsUnderSome u X → TellsShare shape budget p u v (answer.Refused (refusal.Above 1))
  second_above : (X : List Word) → AreAskedOf shape budget p u v X → IsUnderSome u X → ¬ IsUnderSome v X → TellsShare shape budget p u v (answer.Refused (refusal.Above 2))
  share_is : (X : List Word) (share : Option ℤ) → AreAskedOf shape budget p u v X → IsUnderSome u X → IsUnderSome v X → IsShare shape p X u v share → TellsShare shape budget p u v (answer.Share share)
