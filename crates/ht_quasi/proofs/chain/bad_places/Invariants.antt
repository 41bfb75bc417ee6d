use Rattle.ht_quasi.proofs.WalkLaws.{AreBadSoFar}
use Rattle.ht_quasi.proofs.chain.bad_places.Given as goal

abbrev pub invariant-loop-start : goal.invariant-loop-start
invariant-loop-start l = AreBadSoFar l.ahead l.behind l.marks.items l.start
