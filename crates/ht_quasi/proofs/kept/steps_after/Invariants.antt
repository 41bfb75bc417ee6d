use Rattle.ht_quasi.proofs.KeptLaws.{AreRenewed}
use Rattle.ht_quasi.proofs.kept.steps_after.Given as goal

abbrev pub invariant-loop-place : goal.invariant-loop-place
invariant-loop-place l = AreRenewed l.a.shape l.a.rows l.old l.marks l.basis.words l.place l.steps
