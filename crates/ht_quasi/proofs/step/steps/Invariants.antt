use Rattle.ht_quasi.specs.Kept.{HaveRoundSteps}
use Rattle.ht_quasi.proofs.step.steps.Given as goal

abbrev pub invariant-loop-word : goal.invariant-loop-word
invariant-loop-word l = HaveRoundSteps l.a.shape l.a.rows l.basis.words l.word-index l.steps
