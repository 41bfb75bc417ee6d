-- The steps of a line that asks whether two words share an orbit.
use Rattle.std.proofs.Common.{◌≡◌, ℕ, List, [], inl, Some, None, IsSome, refl, subst}
use Rattle.ht_word.specs.declared.word.Word.{Word}
use Rattle.ht_word.specs.declared.shape.Shape.{Shape}
use Rattle.ht_word.specs.Words.{IsWordOf}
use Rattle.ht_pair.specs.declared.row.Row.{Row}
use Rattle.ht_script.specs.declared.line.Line.{Line}
use Rattle.ht_script.specs.declared.line.Line.TheVariants as line
use Rattle.ht_answer.specs.declared.answer.Answer.{Answer}
use Rattle.ht_answer.specs.declared.answer.Answer.TheVariants.{Refused}
use Rattle.ht_answer.specs.declared.answer.Refusal.TheVariants as refusal
use Rattle.ht_pair.specs.Budgets.{IsOverBudget}
use Rattle.ht_calc.specs.Names.{bound}
use Rattle.ht_ask.specs.ShareAnswers.{TellsShare}
use Rattle.ht_calc.specs.States.{State}
use Rattle.ht_calc.specs.Steps.{Does, before_group, unbound, over_budget, share_told}
use Rattle.ht_calc.proofs.NameLaws.{first_unbound, only_bound}

-- a line, and the state as it is told and as it is
module _ (told old : State) (name : List ℕ) (first second : Word) (same : told ≡ old) where
  abbrev asks : Line
  asks = line.Share name first second

  pub share_early : told.shape ≡ None → Does old asks (Refused refusal.Group) old
  share_early none = subst (λ (s : State). Does s asks (Refused refusal.Group) s) same (before_group asks tt none)

  pub share_none : IsSome told.shape → bound told.names name ≡ None → Does old asks (Refused (refusal.Name name)) old
  share_none some none = subst (λ (s : State). Does s asks (Refused (refusal.Name name)) s) same (unbound asks name some (first_unbound told.names name [] none))

  module _ (p : List Row) (shape : Shape) (some : told.shape ≡ Some shape) (found : bound told.names name ≡ Some p) where
    pub share_answered : (answer : Answer) → TellsShare shape told.budget p first second answer → Does old asks answer old
    share_answered answer tells = subst (λ (s : State). Does s asks answer s) same (share_told name first second p shape answer some found tells)

    pub share_over : IsWordOf shape first → IsWordOf shape second → IsOverBudget shape told.budget p → Does old asks (Refused (refusal.Budget name)) old
    share_over one other over = subst (λ (s : State). Does s asks (Refused (refusal.Budget name)) s) same
        (over_budget asks name shape some (one, other) (only_bound told.names name p found) tt (p, found, inl (over, refl)))
