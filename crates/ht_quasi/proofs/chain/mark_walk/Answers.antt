use Rattle.std.proofs.Common.{◌∙◌}
use Rattle.std.proofs.lemmas.Option.{get_or_from_slice_get}
use Rattle.ht_quasi.specs.declared.step.Step.TheVariants.{Splits, Next}
use Rattle.ht_quasi.proofs.WalkLaws.{step_at, none_on_walk, has_next, one_more_on_walk}
use Rattle.ht_quasi.proofs.chain.mark_walk.Goals as goal

pub loop-init : goal.loop-init
loop-init c = none_on_walk c.args.steps.now c.args.count c.args.start c.args.marks.now c.requires.many c.requires.leads

pub unreachable-requires : goal.unreachable-requires
unreachable-requires c =
    let n = has_next c.args.steps.now c.args.count c.args.start c.args.marks.now c.loop.marks c.loop.counter c.loop.place c.loop.invariant c.loop-test.true in
    c.in_default.not-Next n.0 (get_or_from_slice_get c.args.steps.now c.loop.place (Next n.0) Splits n.1)

pub loop-preserved : goal.loop-preserved
loop-preserved c =
    one_more_on_walk c.args.steps.now c.args.count c.args.start c.args.marks.now c.loop.marks c.loop.counter c.loop.place c.in-Next.next (c.loop.auto.marks ∙ c.requires.many) c.loop.invariant
    (step_at c.args.steps.now c.loop.place Splits (Next c.in-Next.next) c.loop.invariant.inside c.in-Next.is)
