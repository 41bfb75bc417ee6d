use Rattle.ht_atoms.proofs.TreeLaws.{AreSettledBelow}
use Rattle.ht_atoms.proofs.tree.settle.Given as goal

abbrev pub invariant-loop-place : goal.invariant-loop-place
invariant-loop-place l = AreSettledBelow l.fn.parents l.parents l.place
