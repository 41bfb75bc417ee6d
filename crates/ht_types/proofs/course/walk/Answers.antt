use Rattle.std.proofs.Common.{◌≡◌, [], ◌∷◌, ℕ, List, length, set, Some, slice_get, refl, sym, ap, ◌∙◌, subst, arith, length-append}
use Rattle.std.proofs.lemmas.Option.{slice_get-get_or}
use Rattle.ht_types.specs.declared.step.Step.TheVariants.{Splits, Leads}
use Rattle.ht_types.specs.declared.course.State.{State}
use Rattle.ht_types.specs.declared.course.State.TheVariants.{New, Met, Known}
use Rattle.ht_types.proofs.EntryLaws.{entry_read}
use Rattle.ht_types.proofs.WalkLaws.{start_told, back_on_path, at_known, walked_along, under_way_along, met_longer, still_told, start_met, out_at_split, one_more_met}
use Rattle.ht_types.proofs.course.walk.Goals as goal
use Rattle.ht_types.proofs.course.walk.Goals.{In-Met, In-Known, In-New, In_ok-push}

met_here : (c : In-Met) → slice_get c.walk.states c.walk.place ≡ Some (Met c.in-Met.first)
met_here c = slice_get-get_or c.walk.states c.walk.place c.index-states-place.result (omega (arith, c.walk.invariant.known.as_many, c.walk.invariant.inside)) ∙ ap (λ (a : State). Some a) c.in-Met.is

known_here : (c : In-Known) → slice_get c.walk.states c.walk.place ≡ Some (Known c.in-Known.field-0)
known_here c = slice_get-get_or c.walk.states c.walk.place c.index-states-place.result (omega (arith, c.walk.invariant.known.as_many, c.walk.invariant.inside)) ∙ ap (λ (a : State). Some a) c.in-Known.is

new_here : (c : In-New) → slice_get c.walk.states c.walk.place ≡ Some New
new_here c = slice_get-get_or c.walk.states c.walk.place c.index-states-place.result (omega (arith, c.walk.invariant.known.as_many, c.walk.invariant.inside)) ∙ ap (λ (a : State). Some a) c.in-New.is

states_are : (c : In_ok-push) → set c.walk.states c.walk.place (Met (length c.walk.path.items)) ≡ c.note.new.states
states_are c = sym (c.note.ensures ∙ ap (λ (n : ℕ). set c.walk.states c.walk.place (Met n)) (omega arith))

pub returns-in-Met-clause-walked : goal.returns-in-Met-clause-walked
returns-in-Met-clause-walked c =
    back_on_path c.args.steps.now c.walk.path.items c.args.start c.walk.place c.in-Met.first c.args.states.now c.walk.states c.walk.invariant (met_here (goal.at.returns-in-Met-clause-walked c).In-Met)

pub returns-in-Met-clause-told : goal.returns-in-Met-clause-told
returns-in-Met-clause-told c = (
  c.walk.invariant.told,
  start_told c.args.steps.now c.walk.path.items c.args.start c.walk.place c.args.states.now c.walk.states (Met c.in-Met.first) c.walk.invariant (met_here (goal.at.returns-in-Met-clause-told c).In-Met) (λ e. cc),
)

pub returns-in-Known-clause-walked : goal.returns-in-Known-clause-walked
returns-in-Known-clause-walked c =
    walked_along c.args.steps.now refl (omega arith) refl
    (at_known c.args.steps.now c.walk.path.items c.args.start c.walk.place c.args.states.now c.walk.states c.in-Known.field-0 c.walk.invariant (known_here (goal.at.returns-in-Known-clause-walked c).In-Known))

pub returns-in-Known-clause-told : goal.returns-in-Known-clause-told
returns-in-Known-clause-told c = (
  c.walk.invariant.told,
  start_told c.args.steps.now c.walk.path.items c.args.start c.walk.place c.args.states.now c.walk.states (Known c.in-Known.field-0) c.walk.invariant (known_here (goal.at.returns-in-Known-clause-told c).In-Known) (λ e. cc),
)

pub returns-in_default-clause-walked : goal.returns-in_default-clause-walked
returns-in_default-clause-walked c =
    let at = goal.at.returns-in_default-clause-walked c in
    let here = entry_read c.args.steps.now c.walk.place c.index-steps-place.result Splits c.walk.invariant.inside c.index-steps-place.is c.in_default.is in
    walked_along c.args.steps.now (sym c.in_ok-push.ensures.items) (omega (arith, ap (λ (l : List ℕ). length l) c.in_ok-push.ensures.items)) (states_are at.In_ok-push)
    (out_at_split c.args.steps.now c.walk.path.items c.args.start c.walk.place c.args.states.now c.walk.states c.walk.invariant (new_here at.In-New) here)

pub returns-in_default-clause-told : goal.returns-in_default-clause-told
returns-in_default-clause-told c =
    let at = goal.at.returns-in_default-clause-told c in
    let new = new_here at.In-New in
    let states = states_are at.In_ok-push in (
      λ x h. still_told c.args.steps.now c.walk.path.items c.args.start c.walk.place c.args.states.now c.walk.states c.walk.invariant new x (subst (λ (s : List State). slice_get s x ≡ Some New) (sym states) h),
      λ h. start_met c.args.steps.now c.walk.path.items c.args.start c.walk.place c.args.states.now c.walk.states c.walk.invariant new (subst (λ (s : List State). slice_get s c.args.start ≡ Some New) (sym states) h),
    )

pub walk-smaller : goal.walk-smaller
walk-smaller c =
    let longer = met_longer c.args.steps.now c.walk.path.items c.args.start c.walk.place c.args.states.now c.walk.states c.walk.invariant (new_here (goal.at.walk-smaller c).In-New) in
    let is = ap (λ (l : List ℕ). length l) c.in_ok-push.ensures.items in
    omega (arith, length-append c.walk.path.items (c.walk.place ∷ []))

pub walk-preserved : goal.walk-preserved
walk-preserved c =
    let at = goal.at.walk-preserved c in
    let here = entry_read c.args.steps.now c.walk.place c.index-steps-place.result (Leads c.in-Leads.to c.in-Leads.rest) c.walk.invariant.inside c.index-steps-place.is c.in-Leads.is in
    under_way_along c.args.steps.now c.args.start c.in-Leads.to c.args.states.now (sym c.in_ok-push.ensures.items) (states_are at.In_ok-push)
    (one_more_met c.args.steps.now c.walk.path.items c.args.start c.walk.place c.args.states.now c.walk.states c.walk.invariant (new_here at.In-New) c.in-Leads.to c.in-Leads.rest c.requires.inside here)
