use Rattle.std.proofs.Common.{◌++◌, [], ◌∷◌, ℕ, List, sym, subst, arith}
use Rattle.ht_types.specs.declared.course.State.{State}
use Rattle.ht_types.specs.CourseStates.{IsNextKnown, IsPathSettled}
use Rattle.ht_types.proofs.StateLaws.{settled_last, last_next, last_once, last_inside}
use Rattle.ht_types.proofs.course.unwind.Goals as goal
use Rattle.ht_types.proofs.course.unwind.Goals.{In-Some}

-- what is left to settle before the last word is
left : (c : In-Some) → IsPathSettled c.args.steps.now (c.pop.new.self.items ++ c.in-Some.place ∷ []) c.args.states.now c.loop-place.states
left c = subst (λ (path : List ℕ). IsPathSettled c.args.steps.now path c.args.states.now c.loop-place.states) c.in-Some.ensures.items c.loop-place.invariant

next : (c : In-Some) → IsNextKnown c.args.steps.now c.loop-place.states c.in-Some.place
next c = last_next c.args.steps.now c.pop.new.self.items c.args.states.now c.loop-place.states c.in-Some.place (left c)

pub course_at-requires-clause-inside : goal.course_at-requires-clause-inside
course_at-requires-clause-inside c =
    last_inside c.args.steps.now c.pop.new.self.items c.args.states.now c.loop-place.states c.in-Some.place (left (goal.at.course_at-requires-clause-inside c).In-Some)

pub course_at-requires-clause-once : goal.course_at-requires-clause-once
course_at-requires-clause-once c = last_once c.args.steps.now c.pop.new.self.items c.args.states.now c.loop-place.states c.in-Some.place (left (goal.at.course_at-requires-clause-once c).In-Some)

pub course_at-requires-clause-next : goal.course_at-requires-clause-next
course_at-requires-clause-next c = next (goal.at.course_at-requires-clause-next c).In-Some

pub note-requires : goal.note-requires
note-requires c =
    omega (
      arith,
      c.loop-place.invariant.known.as_many,
      last_inside c.args.steps.now c.pop.new.self.items c.args.states.now c.loop-place.states c.in-Some.place (left (goal.at.note-requires c).In-Some),
    )

pub loop-place-preserved : goal.loop-place-preserved
loop-place-preserved c =
    let at = (goal.at.loop-place-preserved c).In-Some in
    subst (λ (s : List State). IsPathSettled c.args.steps.now c.pop.new.self.items c.args.states.now s) (sym c.note.ensures)
    (settled_last c.args.steps.now c.pop.new.self.items c.args.states.now c.loop-place.states c.in-Some.place c.in_ok-course.course (left at) c.in_ok-course.ensures (next at))
