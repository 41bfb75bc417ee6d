use Rattle.ht_quasi.proofs.LeastLaws.{HasBothSteps}
use Rattle.ht_quasi.proofs.least.rounds.Given as goal

abbrev pub invariant-rounds : goal.invariant-rounds
invariant-rounds l = HasBothSteps l.a.shape l.a.rows l.back.rows l.budget l.left l.basis l.ahead l.behind

abbrev pub decreases-rounds : goal.decreases-rounds
decreases-rounds l = l.left
