use Rattle.std.proofs.Common.{All, take}
use Rattle.ht_pair.specs.Kinds.{IsCycleWord}
use Rattle.ht_parts.proofs.orders.is_periodic.Given as goal

abbrev pub invariant-loop-place : goal.invariant-loop-place
invariant-loop-place l = All (IsCycleWord l.t.element.shape l.t.element.rows) (take l.place l.t.quasi.basis.words)
