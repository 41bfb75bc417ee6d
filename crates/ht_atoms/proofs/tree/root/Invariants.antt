use Rattle.ht_atoms.proofs.TreeLaws.{IsOnWayUp}
use Rattle.ht_atoms.proofs.tree.root.Given as goal

abbrev pub invariant-loop-parents : goal.invariant-loop-parents
invariant-loop-parents l = IsOnWayUp l.fn.parents l.parents l.start l.place

abbrev pub decreases-loop-parents : goal.decreases-loop-parents
decreases-loop-parents l = l.place
