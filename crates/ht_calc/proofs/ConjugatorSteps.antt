-- The steps of a line that asks whether two elements are conjugate.
use Rattle.std.proofs.Common.{◌≡◌, ◌∙◌, ℕ, List, Option, Some, IsSome, sym, ap, subst}
use Rattle.ht_word.specs.declared.shape.Shape.{Shape}
use Rattle.ht_pair.specs.declared.row.Row.{Row}
use Rattle.ht_pair.specs.declared.verdict.Verdict.{Verdict}
use Rattle.ht_pair.specs.declared.verdict.Verdict.TheVariants as verdict
use Rattle.ht_pair.specs.Elements.{ElementValue, IsElement}
use Rattle.ht_script.specs.declared.line.Line.{Line}
use Rattle.ht_script.specs.declared.line.Line.TheVariants as line
use Rattle.ht_answer.specs.declared.answer.Answer.TheVariants.{Conjugate, NotConjugate, Refused}
use Rattle.ht_answer.specs.declared.answer.Refusal.TheVariants as refusal
use Rattle.ht_pair.specs.Decisions.{IsDecided}
use Rattle.ht_calc.specs.Names.{rows_by_name, bound, bind, AreOfShape, HasRoom}
use Rattle.ht_calc.specs.States.{State}
use Rattle.ht_calc.specs.Steps.{AreAsked, Does, no_room, conjugator_bound, not_conjugate}
use Rattle.ht_calc.proofs.NameLaws.{rows_of, bound_rows, bound_of_shape, same_room, no_room_for}
use Rattle.ht_calc.proofs.TwoNames.{both_bound}

-- the elements that the names are bound to are asked
pub told_asked : (shape : Option Shape) (budget : ℕ) (names : List (List ℕ × ElementValue)) (name first second : List ℕ) (one other : ElementValue) → AreOfShape shape names → bound names first ≡ Some one → bound names second ≡ Some other → HasRoom names name
    → AreAsked (record { shape = shape; budget = budget; names = rows_by_name names }) name first second one.shape one.rows other.rows
told_asked shape budget names name first second one other of_shape is also room = record {
  shape_is = sym (bound_of_shape shape names first one of_shape is).shape_is;
  first_is = bound_rows names first ∙ ap rows_of is;
  second_is = bound_rows names second ∙ ap rows_of also;
  room = (same_room names name).1 room;
}

-- a line, and the state as it is told and as it is
module _ (told old : State) (name first second : List ℕ) (same : told ≡ old) where
  abbrev asks : Line
  asks = line.Conj name first second

  pub conj_no_room : (p q : List Row) → IsSome told.shape → bound told.names first ≡ Some p → bound told.names second ≡ Some q → ¬ HasRoom told.names name → Does old asks (Refused refusal.Names) old
  conj_no_room p q some found also full =
      subst (λ (s : State). Does s asks (Refused refusal.Names) s) same (no_room asks some (both_bound told.names first second p q found also) (no_room_for told.names name full))

  module _ (p q : List Row) (shape : Shape) (asked : AreAsked told name first second shape p q) where
    pub conj_apart : IsDecided shape told.budget p q verdict.NotConjugate → Does old asks NotConjugate old
    conj_apart decided = subst (λ (s : State). Does s asks NotConjugate s) same (not_conjugate name first second p q shape asked decided)

    pub decided_so : (v : Verdict) → IsDecided shape told.budget p q v → IsDecided shape old.budget p q v
    decided_so v decided = subst (λ (s : State). IsDecided shape s.budget p q v) same decided

    pub asked_so : AreAsked old name first second shape p q
    asked_so = subst (λ (s : State). AreAsked s name first second shape p q) same asked

-- the conjugator is bound
pub conj_bound : (old new : State) (name first second : List ℕ) (p q rows made : List Row) (shape : Shape) → AreAsked old name first second shape p q → IsDecided shape old.budget p q (verdict.Conjugate rows) → IsElement shape rows → made ≡ rows
    → new ≡ record old { names = bind old.names name made } → Does old (line.Conj name first second) (Conjugate rows) new
conj_bound old new name first second p q rows made shape asked decided element same is = subst (λ (s : State). Does old (line.Conj name first second) (Conjugate rows) s) (sym is)
    (subst (λ (r : List Row). Does old (line.Conj name first second) (Conjugate rows) (record old { names = bind old.names name r })) (sym same) (conjugator_bound name first second p q rows shape asked decided element))
