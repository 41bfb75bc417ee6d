-- What a typed element tells of the element that it was made for.
use Rattle.std.proofs.Common.{◌≡◌, ℕ, List, subst}
use Rattle.ht_word.specs.declared.shape.Shape.{Shape}
use Rattle.ht_pair.specs.Bases.{TakesAtMost}
use Rattle.ht_pair.specs.Budgets.{FitsBudget}
use Rattle.ht_pair.specs.Elements.{ElementValue}
use Rattle.ht_quasi.specs.declared.quasi.Quasi.{Quasi}
use Rattle.ht_types.specs.declared.kind.Kind.{Kind}
use Rattle.ht_types.specs.TypedElements.{IsTyped}

-- its quasinormal basis fits the budget
pub fits : (element : ElementValue) (quasi : Quasi) (kinds : List Kind) (budget : ℕ) (shape : Shape) → element.shape ≡ shape → IsTyped element quasi kinds → TakesAtMost element.shape quasi.basis.words budget → FitsBudget shape budget element.rows
fits element quasi kinds budget shape of_shape typed within = subst (λ (s : Shape). FitsBudget s budget element.rows) of_shape (record { basis = quasi.basis.words; quasinormal = typed.quasinormal.least; within = within })
