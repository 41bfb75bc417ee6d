use Rattle.ht_types.proofs.StepLaws.{HaveSteps}
use Rattle.ht_types.proofs.step.steps.Given as goal

abbrev pub invariant-loop-word : goal.invariant-loop-word
invariant-loop-word l = HaveSteps l.a.shape l.a.rows l.basis.words l.word-index l.steps
