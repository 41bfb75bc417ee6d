use Rattle.std.proofs.Common.{take}
use Rattle.ht_atoms.specs.Trees.{IsForestOf}
use Rattle.ht_atoms.proofs.tree.tie_all.Given as goal

abbrev pub invariant-loop-join : goal.invariant-loop-join
invariant-loop-join l = IsForestOf (take l.join-index l.joins) l.parents
