use Rattle.ht_quasi.proofs.WalkLaws.{IsWalkSoFar}
use Rattle.ht_quasi.proofs.chain.steps_to_split.Given as goal

abbrev pub invariant-loop-count : goal.invariant-loop-count
invariant-loop-count l = IsWalkSoFar l.steps l.start l.count l.place
