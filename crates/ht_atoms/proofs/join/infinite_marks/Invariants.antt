use Rattle.ht_atoms.proofs.JoinLaws.{IsMarkedBelow}
use Rattle.ht_atoms.proofs.join.infinite_marks.Given as goal

abbrev pub invariant-loop-place : goal.invariant-loop-place
invariant-loop-place l = IsMarkedBelow l.t.element.shape l.t.element.rows l.t.quasi.basis.words l.place l.marks.items
