use Rattle.ht_cycles.specs.Cycles.{ArePickedBefore}
use Rattle.ht_cycles.proofs.representatives.representatives.Given as goal

abbrev pub invariant-loop-place : goal.invariant-loop-place
invariant-loop-place l = ArePickedBefore l.t.element.shape l.t.element.rows l.t.quasi.basis.words l.place l.marks.items l.groups.items
