use Rattle.ht_types.proofs.WalkLaws.{AreSettledTo}
use Rattle.ht_types.proofs.course.courses.Given as goal

abbrev pub invariant-loop-start : goal.invariant-loop-start
invariant-loop-start l = AreSettledTo l.steps l.states.items l.start
