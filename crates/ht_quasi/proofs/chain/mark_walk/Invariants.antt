use Rattle.ht_quasi.proofs.WalkLaws.{AreOnWalk}
use Rattle.ht_quasi.proofs.chain.mark_walk.Given as goal

abbrev pub invariant-loop : goal.invariant-loop
invariant-loop l = AreOnWalk l.steps l.count l.start l.fn.marks l.marks l.counter l.place
