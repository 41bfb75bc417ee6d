use Rattle.ht_share.proofs.PeriodicShares.{IsBeforeOnCycle}
use Rattle.ht_share.proofs.periodic.share_periodic.Given as goal

abbrev pub invariant-loop-steps : goal.invariant-loop-steps
invariant-loop-steps l = IsBeforeOnCycle l.t.element.shape l.t.element.rows l.u l.v l.word l.steps
