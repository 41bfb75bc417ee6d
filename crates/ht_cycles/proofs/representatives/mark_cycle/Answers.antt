use Rattle.std.proofs.Common.{arith}
use Rattle.std.proofs.lemmas.Option.{slice_get_within}
use Rattle.ht_cycles.proofs.PickedLaws.{marked_place, one_more_mark, round_marked}
use Rattle.ht_cycles.proofs.representatives.mark_cycle.Goals as goal

pub bounds-marks-place : goal.bounds-marks-place
bounds-marks-place c = omega (arith, c.loop.invariant.many, slice_get_within c.args.t.now.quasi.basis.words c.loop.place c.loop.invariant.at c.loop.invariant.there)

pub next_place-requires : goal.next_place-requires
next_place-requires c =
    let t = c.args.t.now in
    (c.args.m, marked_place t.element.shape t.element.rows c.keeps_kinds.ensures.canonical.canonical.pair t.quasi.basis.words c.args.m c.args.start c.args.marks.now c.loop.counter c.loop.place c.loop.marks c.requires.cycle c.loop.invariant)

pub loop-preserved : goal.loop-preserved
loop-preserved c =
    let t = c.args.t.now in
    let typed = c.keeps_kinds.ensures in
    one_more_mark t.element.shape t.element.rows typed.canonical.canonical.pair t.quasi.basis.words typed.quasinormal.least.semi_normal.basis.prefix_free c.args.start c.args.marks.now c.loop.counter c.loop.place c.in_ok-place.place c.loop.marks c.loop.invariant c.in_ok-place.ensures

pub returns : goal.returns
returns c =
    let t = c.args.t.now in
    round_marked t.element.shape t.element.rows c.keeps_kinds.ensures.canonical.canonical.pair t.quasi.basis.words c.args.m c.args.start c.args.marks.now c.loop.counter c.loop.place c.loop.marks c.requires.cycle (omega (arith, c.loop-test.false)) c.requires.many c.loop.invariant
