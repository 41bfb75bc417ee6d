-- Lines that ask one element.
use Rattle.std.proofs.Common.{◌≡◌, ℕ, List, [], ◌∷◌, inl, Some, None, IsSome, refl, sym, subst}
use Rattle.ht_word.specs.declared.shape.Shape.{Shape}
use Rattle.ht_pair.specs.declared.row.Row.{Row}
use Rattle.ht_answer.specs.declared.answer.Answer.TheVariants.{Refused}
use Rattle.ht_answer.specs.declared.answer.Refusal.TheVariants as refusal
use Rattle.ht_ask.specs.declared.question.Question.{Question}
use Rattle.ht_ask.specs.declared.question.Question.TheVariants.{Show, Basis, Order, Types, Profile, Ponds}
use Rattle.ht_pair.specs.Budgets.{IsOverBudget}
use Rattle.ht_ask.specs.Questions.{TakesBasis}
use Rattle.ht_calc.specs.LineNames.{reads, binds, asks, NeedsGroup, MeetsBudget}
use Rattle.ht_calc.specs.Names.{bound, AreBound, IsFirstUnbound, IsFirstOver, HasRoomFor}
use Rattle.ht_calc.specs.States.{State}
use Rattle.ht_calc.specs.Steps.{Does, before_group, unbound, over_budget}
use Rattle.ht_calc.proofs.NameLaws.{first_unbound, only_bound}

needs_group : (question : Question) (name : List ℕ) → NeedsGroup (asks question name)
needs_group Show name = tt
needs_group Basis name = tt
needs_group Order name = tt
needs_group Types name = tt
needs_group Profile name = tt
needs_group Ponds name = tt

reads_one : (question : Question) (name : List ℕ) → reads (asks question name) ≡ name ∷ []
reads_one Show name = refl
reads_one Basis name = refl
reads_one Order name = refl
reads_one Types name = refl
reads_one Profile name = refl
reads_one Ponds name = refl

has_room : (names : List (List ℕ × List Row)) (question : Question) (name : List ℕ) → HasRoomFor names (binds (asks question name))
has_room names Show name = tt
has_room names Basis name = tt
has_room names Order name = tt
has_room names Types name = tt
has_room names Profile name = tt
has_room names Ponds name = tt

meets_budget : (shape : Shape) (question : Question) (name : List ℕ) → TakesBasis question → MeetsBudget shape (asks question name)
meets_budget shape Show name takes = takes
meets_budget shape Basis name takes = takes
meets_budget shape Order name takes = takes
meets_budget shape Types name takes = takes
meets_budget shape Profile name takes = takes
meets_budget shape Ponds name takes = takes

-- before the group is set
pub asked_early : (told old : State) (question : Question) (name : List ℕ) → told ≡ old → told.shape ≡ None → Does old (asks question name) (Refused refusal.Group) old
asked_early told old question name same none =
    subst (λ (s : State). Does s (asks question name) (Refused refusal.Group) s) same (before_group (asks question name) (needs_group question name) none)

-- a name that isn't bound
pub asked_none : (told old : State) (question : Question) (name : List ℕ) → told ≡ old → IsSome told.shape → bound told.names name ≡ None → Does old (asks question name) (Refused (refusal.Name name)) old
asked_none told old question name same some none =
    subst (λ (s : State). Does s (asks question name) (Refused (refusal.Name name)) s) same
    (unbound (asks question name) name some (subst (λ asked. IsFirstUnbound told.names asked name) (sym (reads_one question name)) (first_unbound told.names name [] none)))

-- an element over the budget
pub asked_over : (told old : State) (question : Question) (name : List ℕ) (p : List Row) (shape : Shape) → told ≡ old → told.shape ≡ Some shape → bound told.names name ≡ Some p → TakesBasis question → IsOverBudget shape told.budget p
    → Does old (asks question name) (Refused (refusal.Budget name)) old
asked_over told old question name p shape same some is takes over =
    subst (λ (s : State). Does s (asks question name) (Refused (refusal.Budget name)) s) same
    (over_budget (asks question name) name shape some (meets_budget shape question name takes) (subst (AreBound told.names) (sym (reads_one question name)) (only_bound told.names name p is)) (has_room told.names question name)
    (subst (λ asked. IsFirstOver shape told.budget told.names asked name) (sym (reads_one question name)) (p, is, inl (over, refl))))
