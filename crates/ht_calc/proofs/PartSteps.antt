-- The steps of a line that asks for the parts of an element.
use Rattle.std.proofs.Common.{◌≡◌, ℕ, List, [], ◌∷◌, length, inl, Result, Ok, Err, IfOk, OnOk, Some, None, IsSome, refl, sym, subst}
use Rattle.ht_word.specs.declared.shape.Shape.{Shape}
use Rattle.ht_pair.specs.declared.row.Row.{Row}
use Rattle.ht_script.specs.declared.line.Line.TheVariants as line
use Rattle.ht_answer.specs.declared.answer.Answer.{Answer}
use Rattle.ht_answer.specs.declared.answer.Answer.TheVariants.{Parts, Refused}
use Rattle.ht_answer.specs.declared.answer.Refusal.TheVariants as refusal
use Rattle.ht_pair.specs.Budgets.{IsOverBudget}
use Rattle.ht_calc.specs.Names.{bound, bind, HasRoomFor}
use Rattle.ht_ask.specs.PartAnswers.{ArePartsOf, HasLargePart}
use Rattle.ht_calc.specs.States.{State}
use Rattle.ht_calc.specs.Steps.{Does, before_group, unbound, no_room, over_budget, parts_bound, parts_large}
use Rattle.ht_calc.proofs.NameLaws.{first_unbound, only_bound}

-- a line, and the state as it is told and as it is
module _ (told old : State) (periodic infinite whole : List ℕ) (same : told ≡ old) where
  pub parts_early : told.shape ≡ None → Does old (line.Parts periodic infinite whole) (Refused refusal.Group) old
  parts_early none = subst (λ (s : State). Does s (line.Parts periodic infinite whole) (Refused refusal.Group) s) same (before_group (line.Parts periodic infinite whole) tt none)

  pub parts_none : IsSome told.shape → bound told.names whole ≡ None → Does old (line.Parts periodic infinite whole) (Refused (refusal.Name whole)) old
  parts_none some none = subst (λ (s : State). Does s (line.Parts periodic infinite whole) (Refused (refusal.Name whole)) s) same
      (unbound (line.Parts periodic infinite whole) whole some (first_unbound told.names whole [] none))

  pub parts_no_room : (p : List Row) → IsSome told.shape → bound told.names whole ≡ Some p → ¬ HasRoomFor told.names (periodic ∷ infinite ∷ []) → Does old (line.Parts periodic infinite whole) (Refused refusal.Names) old
  parts_no_room p some found full = subst (λ (s : State). Does s (line.Parts periodic infinite whole) (Refused refusal.Names) s) same
      (no_room (line.Parts periodic infinite whole) some (only_bound told.names whole p found) full)

  module _ (p : List Row) (shape : Shape) (some : told.shape ≡ Some shape) (found : bound told.names whole ≡ Some p) (room : HasRoomFor told.names (periodic ∷ infinite ∷ [])) where
    pub parts_over : IsOverBudget shape told.budget p → Does old (line.Parts periodic infinite whole) (Refused (refusal.Budget whole)) old
    parts_over over = subst (λ (s : State). Does s (line.Parts periodic infinite whole) (Refused (refusal.Budget whole)) s) same
        (over_budget (line.Parts periodic infinite whole) whole shape some tt (only_bound told.names whole p found) room (p, found, inl (over, refl)))

    pub parts_too_large : (rows letters : ℕ) → HasLargePart shape told.budget p rows letters → Does old (line.Parts periodic infinite whole) (Refused (refusal.Large rows letters)) old
    parts_too_large rows letters large = subst (λ (s : State). Does s (line.Parts periodic infinite whole) (Refused (refusal.Large rows letters)) s) same
        (parts_large periodic infinite whole p rows letters shape some found room large)

    both_told : {E : Type 0} (first second : List Row) (new : State) (result : Result Answer E) → Does old (line.Parts periodic infinite whole) (Parts (length first) (length second)) (record old { names = bind (bind old.names periodic first) infinite second })
        → IfOk result (λ answer. answer ≡ Parts (length first) (length second)) → OnOk result (new ≡ record old { names = bind (bind old.names periodic first) infinite second }) → IfOk result (λ answer. Does old (line.Parts periodic infinite whole) answer new)
    both_told first second new (Ok answer) does is made = subst (λ (s : State). Does old (line.Parts periodic infinite whole) answer s) (sym made)
        (subst (λ (t : Answer). Does old (line.Parts periodic infinite whole) t (record old { names = bind (bind old.names periodic first) infinite second })) (sym is) does)
    both_told first second new (Err e) does is made = tt

    pub parts_told : {E : Type 0} (first second : List Row) (new : State) (result : Result Answer E) → ArePartsOf shape told.budget p first second
        → IfOk result (λ answer. answer ≡ Parts (length first) (length second)) → OnOk result (new ≡ record old { names = bind (bind old.names periodic first) infinite second }) → IfOk result (λ answer. Does old (line.Parts periodic infinite whole) answer new)
    parts_told first second new result parts is made = both_told first second new result
        (subst (λ (s : State). Does s (line.Parts periodic infinite whole) (Parts (length first) (length second)) (record s { names = bind (bind s.names periodic first) infinite second })) same
        (parts_bound periodic infinite whole p first second shape some found room parts)) is made
