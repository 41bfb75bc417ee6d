-- Which elements' quasinormal bases a budget of expansions is enough for.
--
--     FitsBudget shape budget p     the quasinormal basis of p takes at most so many expansions of the roots
--     IsOverBudget shape budget p   it takes more
use Rattle.std.specs.Prelude.{ℕ, List}
use Rattle.ht_word.specs.declared.word.Word.{Word}
use Rattle.ht_word.specs.declared.shape.Shape.{Shape}
use Rattle.ht_pair.specs.declared.row.Row.{Row}
use Rattle.ht_pair.specs.Bases.{TakesAtMost}
use Rattle.ht_pair.specs.SemiNormal.{IsQuasinormal}

pub record FitsBudget (shape : Shape) (budget : ℕ) (p : List Row) : Type 0 where
  pub basis : List Word
  pub quasinormal : IsQuasinormal shape p basis
  pub within : TakesAtMost shape basis budget

pub record IsOverBudget (shape : Shape) (budget : ℕ) (p : List Row) : Type 0 where
  pub basis : List Word
  pub quasinormal : IsQuasinormal shape p basis
  pub over : ¬ TakesAtMost shape basis budget
