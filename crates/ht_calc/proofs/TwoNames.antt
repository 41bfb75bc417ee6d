-- The steps of a line that reads two names.
use Rattle.std.proofs.Common.{◌≡◌, ◌≢◌, ℕ, List, [], ◌∷◌, inl, inr, Some, None, IsSome, refl, sym, subst}
use Rattle.std.proofs.lemmas.List.Elements.{All-cons}
use Rattle.ht_word.specs.declared.shape.Shape.{Shape}
use Rattle.ht_pair.specs.declared.row.Row.{Row}
use Rattle.ht_pair.specs.Budgets.{FitsBudget, IsOverBudget}
use Rattle.ht_script.specs.declared.line.Line.{Line}
use Rattle.ht_answer.specs.declared.answer.Answer.TheVariants.{Refused}
use Rattle.ht_answer.specs.declared.answer.Refusal.TheVariants as refusal
use Rattle.ht_calc.specs.LineNames.{reads, binds, NeedsGroup, MeetsBudget}
use Rattle.ht_calc.specs.Names.{bound, AreBound, IsFirstUnbound, IsFirstOver, HasRoomFor}
use Rattle.ht_calc.specs.States.{State}
use Rattle.ht_calc.specs.Steps.{Does, before_group, unbound, over_budget}
use Rattle.ht_calc.proofs.NameLaws.{first_unbound, second_unbound, only_bound}

pub both_bound : {T : Type 0} (names : List (List ℕ × T)) (first second : List ℕ) (one other : T) → bound names first ≡ Some one → bound names second ≡ Some other → AreBound names (first ∷ second ∷ [])
both_bound names first second one other is also = All-cons (λ name. bound names name ≢ None) first (second ∷ []) (λ none. cc) (only_bound names second other also)

-- a line, and the state as it is told and as it is
module _ (told old : State) (line : Line) (first second : List ℕ) (reads_both : reads line ≡ first ∷ second ∷ []) (same : told ≡ old) where
  pub no_group : NeedsGroup line → told.shape ≡ None → Does old line (Refused refusal.Group) old
  no_group needs none = subst (λ (s : State). Does s line (Refused refusal.Group) s) same (before_group line needs none)

  pub first_none : IsSome told.shape → bound told.names first ≡ None → Does old line (Refused (refusal.Name first)) old
  first_none some none = subst (λ (s : State). Does s line (Refused (refusal.Name first)) s) same
      (unbound line first some (subst (λ asked. IsFirstUnbound told.names asked first) (sym reads_both) (first_unbound told.names first (second ∷ []) none)))

  module _ (p : List Row) (first_is : bound told.names first ≡ Some p) where
    pub second_none : IsSome told.shape → bound told.names second ≡ None → Does old line (Refused (refusal.Name second)) old
    second_none some none = subst (λ (s : State). Does s line (Refused (refusal.Name second)) s) same
        (unbound line second some (subst (λ asked. IsFirstUnbound told.names asked second) (sym reads_both) (second_unbound told.names first second p first_is none)))

    -- an element over the budget
    module _ (q : List Row) (second_is : bound told.names second ≡ Some q) (shape : Shape) (some : told.shape ≡ Some shape) (meets : MeetsBudget shape line) (room : HasRoomFor told.names (binds line)) where
      over : (name : List ℕ) → IsFirstOver shape told.budget told.names (first ∷ second ∷ []) name → Does old line (Refused (refusal.Budget name)) old
      over name is = subst (λ (s : State). Does s line (Refused (refusal.Budget name)) s) same
          (over_budget line name shape some meets (subst (AreBound told.names) (sym reads_both) (both_bound told.names first second p q first_is second_is)) room
          (subst (λ asked. IsFirstOver shape told.budget told.names asked name) (sym reads_both) is))

      pub first_over : IsOverBudget shape told.budget p → Does old line (Refused (refusal.Budget first)) old
      first_over past = over first (p, first_is, inl (past, refl))

      pub second_over : FitsBudget shape told.budget p → IsOverBudget shape told.budget q → Does old line (Refused (refusal.Budget second)) old
      second_over fits past = over second (p, first_is, inr (fits, (q, second_is, inl (past, refl))))
