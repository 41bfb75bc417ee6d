use Rattle.ht_power.proofs.DivisorTrials.{IsTriedTo}
use Rattle.ht_power.proofs.finite.trials.Given as goal

abbrev pub invariant-loop-index : goal.invariant-loop-index
invariant-loop-index g l = IsTriedTo l.f.element.shape l.f.element.rows l.g.element.rows l.first l.second l.tried l.index
