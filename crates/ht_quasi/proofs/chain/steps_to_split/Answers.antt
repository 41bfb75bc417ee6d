use Rattle.ht_quasi.specs.declared.step.Step.TheVariants.{Splits, Next, Descends}
use Rattle.ht_quasi.proofs.WalkLaws.{step_at, walked_on, walked_out, walked_down}
use Rattle.ht_quasi.proofs.chain.steps_to_split.Goals as goal

pub returns-in-Splits : goal.returns-in-Splits
returns-in-Splits c =
    walked_out c.args.steps.now c.args.start c.loop-count.count c.loop-count.place c.loop-count.invariant (step_at c.args.steps.now c.loop-count.place Splits Splits c.loop-count.invariant.inside c.in-Splits.is)

pub returns-in-Descends : goal.returns-in-Descends
returns-in-Descends c =
    walked_down c.args.steps.now c.args.start c.loop-count.count c.loop-count.place c.in-Descends.field-0 c.loop-count.invariant (step_at c.args.steps.now c.loop-count.place Splits (Descends c.in-Descends.field-0) c.loop-count.invariant.inside c.in-Descends.is)

pub loop-count-preserved : goal.loop-count-preserved
loop-count-preserved c =
    let here = step_at c.args.steps.now c.loop-count.place Splits (Next c.in-Next.next) c.loop-count.invariant.inside c.in-Next.is in
    walked_on c.args.steps.now c.args.start c.loop-count.count c.loop-count.place c.in-Next.next c.loop-count.invariant here (c.requires.inside c.loop-count.place c.in-Next.next here)
