use Rattle.ht_cycles.proofs.PickedLaws.{AreMarkedSteps}
use Rattle.ht_cycles.proofs.representatives.mark_cycle.Given as goal

abbrev pub invariant-loop : goal.invariant-loop
invariant-loop l = AreMarkedSteps l.t.element.shape l.t.element.rows l.t.quasi.basis.words l.start l.fn.marks l.counter l.place l.marks
