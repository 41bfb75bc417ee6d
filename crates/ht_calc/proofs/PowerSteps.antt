-- The steps of a line that asks whether two elements have conjugate powers.
use Rattle.std.proofs.Common.{◌≡◌, ◌∙◌, ℕ, List, Option, Some, Result, Ok, Err, refl, sym, ap, subst}
use Rattle.ht_word.specs.declared.shape.Shape.{Shape}
use Rattle.ht_pair.specs.declared.row.Row.{Row}
use Rattle.ht_pair.specs.declared.decider.Which.TheVariants.{First, Second}
use Rattle.ht_pair.specs.declared.verdict.PowerVerdict.{PowerVerdict}
use Rattle.ht_pair.specs.declared.verdict.PowerVerdict.TheVariants as power_verdict
use Rattle.ht_pair.specs.Elements.{ElementValue}
use Rattle.ht_pair.specs.PowerRule.{PowerRule}
use Rattle.ht_pair.specs.PowerTrials.{FirstPastBudget, SecondPastBudget}
use Rattle.ht_pair.specs.PowerVerdicts.{IsPowerVerdict}
use Rattle.ht_power.specs.declared.fault.PowerFault.{PowerFault}
use Rattle.ht_power.specs.declared.fault.PowerFault.TheVariants as fault
use Rattle.ht_power.specs.Told.{Tells}
use Rattle.ht_answer.specs.Answers.{HasAnswerText}
use Rattle.ht_text.proofs.CanonicalTexts.{pair_has_texts}
use Rattle.ht_script.specs.declared.line.Line.{Line}
use Rattle.ht_script.specs.declared.line.Line.TheVariants as line
use Rattle.ht_answer.specs.declared.answer.Answer.TheVariants.{Refused}
use Rattle.ht_answer.specs.declared.answer.Refusal.TheVariants as refusal
use Rattle.ht_calc.specs.Names.{rows_by_name, bound, AreOfShape}
use Rattle.ht_calc.specs.States.{State}
use Rattle.ht_calc.specs.Steps.{Does, power_answer, powers_told, powers_large, powers_wide}
use Rattle.ht_calc.proofs.NameLaws.{rows_of, bound_rows, bound_of_shape}
use Rattle.ht_calc.proofs.PowerBudgets.{past_budget}
use Rattle.ht_calc.proofs.TwoNames.{first_over, second_over}

-- what is told of a verdict has a text
pub verdict_text : (shape : Shape) (p q : List Row) (verdict : PowerVerdict) → IsPowerVerdict shape p q verdict → HasAnswerText (power_answer verdict)
verdict_text shape p q (power_verdict.Powers i j by) verdict = pair_has_texts shape by verdict.canonical.pair
verdict_text shape p q power_verdict.None verdict = tt

-- a line that reads the names of two elements, and the state as it is told and as it is
module _ (set : Option Shape) (budget : ℕ) (names : List (List ℕ × ElementValue)) (old : State) (first second : List ℕ) (same : record { shape = set; budget = budget; names = rows_by_name names } ≡ old) where
  abbrev told : State
  told = record { shape = set; budget = budget; names = rows_by_name names }

  abbrev asks : Line
  asks = line.Power first second

  module _ (one other : ElementValue) (of_shape : AreOfShape set names) (is : bound names first ≡ Some one) (also : bound names second ≡ Some other) where
    shape_is : set ≡ Some one.shape
    shape_is = sym (bound_of_shape set names first one of_shape is).shape_is

    first_is : bound told.names first ≡ Some one.rows
    first_is = bound_rows names first ∙ ap rows_of is

    second_is : bound told.names second ≡ Some other.rows
    second_is = bound_rows names second ∙ ap rows_of also

    abbrev Rules : Result PowerVerdict PowerFault → Type 0
    Rules = Tells (PowerRule one.shape one.rows other.rows budget)

    pub power_told : (verdict : PowerVerdict) → Rules (Ok verdict) → IsPowerVerdict one.shape one.rows other.rows verdict → Does old asks (power_answer verdict) old
    power_told verdict rule holds = subst (λ (s : State). Does s asks (power_answer verdict) s) same (powers_told first second one.rows other.rows one.shape verdict shape_is first_is second_is rule holds)

    pub power_first_over : (why : PowerFault) → why ≡ fault.Budget First → Rules (Err why) → Does old asks (Refused (refusal.Budget first)) old
    power_first_over why is_budget rule = first_over told old asks first second refl same one.rows first_is other.rows second_is one.shape shape_is tt tt
        (past_budget one.shape one.rows other.rows budget FirstPastBudget (subst (λ (f : PowerFault). Rules (Err f)) is_budget rule))

    pub power_second_over : (why : PowerFault) → why ≡ fault.Budget Second → Rules (Err why) → Does old asks (Refused (refusal.Budget second)) old
    power_second_over why is_budget rule =
        let past = past_budget one.shape one.rows other.rows budget SecondPastBudget (subst (λ (f : PowerFault). Rules (Err f)) is_budget rule) in
        second_over told old asks first second refl same one.rows first_is other.rows second_is one.shape shape_is tt tt past.0 past.1

    pub power_large : (why : PowerFault) (rows letters : ℕ) → why ≡ fault.Large rows letters → Rules (Err why) → Does old asks (Refused (refusal.Large rows letters)) old
    power_large why rows letters is_large rule = subst (λ (s : State). Does s asks (Refused (refusal.Large rows letters)) s) same
        (powers_large first second one.rows other.rows rows letters one.shape shape_is first_is second_is (subst (λ (f : PowerFault). Rules (Err f)) is_large rule))

    pub power_wide : (why : PowerFault) → why ≡ fault.Wide → Rules (Err why) → Does old asks (Refused refusal.Wide) old
    power_wide why is_wide rule = subst (λ (s : State). Does s asks (Refused refusal.Wide) s) same
        (powers_wide first second one.rows other.rows one.shape shape_is first_is second_is (subst (λ (f : PowerFault). Rules (Err f)) is_wide rule))
