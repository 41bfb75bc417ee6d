use Rattle.std.proofs.Common.{◌≡◌, ◌<◌, length, Some, slice_get, sym, ap, ◌∙◌, arith}
use Rattle.std.proofs.lemmas.Option.{slice_get_within}
use Rattle.ht_types.specs.declared.step.Step.TheVariants.{Splits, Leads}
use Rattle.ht_types.specs.declared.course.State.TheVariants.{Known}
use Rattle.ht_types.proofs.NextLaws.{ends_here}
use Rattle.ht_types.proofs.EntryLaws.{entry_read, read_is}
use Rattle.ht_types.proofs.course.course_at.Goals as goal
use Rattle.ht_types.proofs.course.course_at.Goals.{In-Leads}

-- the step that was read
here : (c : In-Leads) → slice_get c.args.steps.now c.args.place ≡ Some (Leads c.in-Leads.to c.in-Leads.rest)
here c = entry_read c.args.steps.now c.args.place c.index-steps-place.result (Leads c.in-Leads.to c.in-Leads.rest) c.requires.inside c.index-steps-place.is c.in-Leads.is

inside : (c : In-Leads) → c.in-Leads.to < length c.args.states.now
inside c =
    let known = c.requires.next c.in-Leads.to (c.in-Leads.rest, here c) in
    slice_get_within c.args.states.now c.in-Leads.to (Known known.0) known.1

pub returns-in_default : goal.returns-in_default
returns-in_default c = ends_here c.args.steps.now c.args.place (entry_read c.args.steps.now c.args.place c.index-steps-place.result Splits c.requires.inside c.index-steps-place.is c.in_default.is)

pub offset_bounds-states-to : goal.offset_bounds-states-to
offset_bounds-states-to c = let l : c.in-Leads.to < length c.args.states.now = inside (goal.at.offset_bounds-states-to c).In-Leads in omega arith

pub bounds-states-to : goal.bounds-states-to
bounds-states-to c = inside (goal.at.bounds-states-to c).In-Leads

pub unreachable-requires : goal.unreachable-requires
unreachable-requires c =
    let known = c.requires.next c.in-Leads.to (c.in-Leads.rest, here (goal.at.unreachable-requires c).In-Leads) in
    c.in_default-states.not-Known known.0 (read_is c.args.states.now c.in-Leads.to c.index-states-to.result (Known known.0) c.index-states-to.is known.1)

pub before-requires-clause-step : goal.before-requires-clause-step
before-requires-clause-step c = here (goal.at.before-requires-clause-step c).In-Leads ∙ ap (λ z. Some (Leads c.in-Leads.to z)) (sym c.as_slice.ensures)

pub before-requires-clause-course : goal.before-requires-clause-course
before-requires-clause-course c =
    c.requires.right c.in-Leads.to c.in-Known.course
    (entry_read c.args.states.now c.in-Leads.to c.index-states-to.result (Known c.in-Known.course) (inside (goal.at.before-requires-clause-course c).In-Leads) c.index-states-to.is c.in-Known.is)
