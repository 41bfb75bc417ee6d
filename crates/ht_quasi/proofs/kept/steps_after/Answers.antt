use Rattle.std.proofs.Common.{true, false, get_or, refl, subst, arith}
use Rattle.ht_word.specs.declared.shape.Shape.{Shape}
use Rattle.ht_quasi.specs.declared.step.Step.TheVariants.{Splits}
use Rattle.ht_quasi.specs.Kept.{ArePlacesAfter}
use Rattle.ht_quasi.proofs.KeptLaws.{entry_at, place_within, none_renewed, renewed_children, renewed_kept, all_renewed}
use Rattle.ht_quasi.proofs.kept.steps_after.Goals as goal

pub loop-place-init : goal.loop-place-init
loop-place-init c = none_renewed c.args.a.now.shape c.args.a.now.rows c.args.old.now c.args.marks.now c.args.basis.now.words c.new-steps.result c.new-steps.ensures

pub add_steps-requires-clause-room : goal.add_steps-requires-clause-room
add_steps-requires-clause-room c =
    omega (arith, c.loop-place.invariant.count, c.requires.long, place_within c.args.a.now.shape.n c.args.marks.now c.loop-place.place true (entry_at c.args.marks.now c.loop-place.place false true c.loop-place-test.true c.if-mark.true))

pub loop-place-preserved-then-mark : goal.loop-place-preserved-then-mark
loop-place-preserved-then-mark c =
    renewed_children c.args.a.now.shape c.args.a.now.rows c.args.old.now c.args.marks.now c.args.basis.now.words c.loop-place.place c.loop-place.steps c.add_steps.new.steps
    (entry_at c.args.marks.now c.loop-place.place false true c.loop-place-test.true c.if-mark.true) c.loop-place.invariant c.in_ok-add_steps.ensures

pub kept_step-known-requires-clause-inside : goal.kept_step-known-requires-clause-inside
kept_step-known-requires-clause-inside c = c.requires.inside c.loop-place.place _ (entry_at c.args.old.now c.loop-place.place Splits (get_or c.args.old.now c.loop-place.place Splits) (omega (arith, c.requires.many, c.loop-place-test.true)) refl)

pub add_step-requires-clause-room : goal.add_step-requires-clause-room
add_step-requires-clause-room c =
    omega (arith, c.loop-place.invariant.count, c.requires.long, place_within c.args.a.now.shape.n c.args.marks.now c.loop-place.place false (entry_at c.args.marks.now c.loop-place.place false false c.loop-place-test.true c.if-mark.false))

pub loop-place-preserved : goal.loop-place-preserved
loop-place-preserved c =
    let a = c.args.a.now in
    let old = c.args.old.now in
    let place = c.loop-place.place in
    let step = get_or old place Splits in
    renewed_kept a.shape a.rows old c.args.marks.now c.args.basis.now.words c.in_ok-places.places.items c.deref.result.now place step c.kept_step-known.result c.loop-place.steps c.add_step.new.steps c.requires.many
    (subst (λ (s : Shape). ArePlacesAfter s.n c.args.marks.now c.in_ok-places.places.items) c.shape.ensures c.in_ok-places.ensures) c.deref.ensures.value
    (entry_at old place Splits step (omega (arith, c.requires.many, c.loop-place-test.true)) refl)
    (entry_at c.args.marks.now place false false c.loop-place-test.true c.if-mark.false) c.kept_step-known.ensures c.loop-place.invariant c.in_ok-add_step.ensures

pub returns : goal.returns
returns c = all_renewed c.args.a.now.shape c.args.a.now.rows c.args.old.now c.args.marks.now c.args.basis.now.words c.loop-place.place c.loop-place.steps (omega arith) c.requires.long c.loop-place.invariant
