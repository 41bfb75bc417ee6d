-- What is decided of two elements.
--
--     IsDecided shape budget p q verdict   the quasinormal bases of both fit the budget, and this is the verdict on them
use Rattle.std.specs.Prelude.{ℕ, List}
use Rattle.ht_word.specs.declared.shape.Shape.{Shape}
use Rattle.ht_pair.specs.declared.row.Row.{Row}
use Rattle.ht_pair.specs.declared.verdict.Verdict.{Verdict}
use Rattle.ht_pair.specs.Budgets.{FitsBudget}
use Rattle.ht_pair.specs.Verdicts.{IsVerdict}

pub record IsDecided (shape : Shape) (budget : ℕ) (p q : List Row) (verdict : Verdict) : Type 0 where
  pub first : FitsBudget shape budget p
  pub second : FitsBudget shape budget q
  pub is_verdict : IsVerdict shape p q verdict
