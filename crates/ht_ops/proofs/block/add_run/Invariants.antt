use Rattle.std.proofs.Common.{◌≡◌, ◌++◌, map, take}
use Rattle.ht_ops.specs.Blocks.{carried_by}
use Rattle.ht_ops.proofs.block.add_run.Given as goal

abbrev pub invariant-loop-other : goal.invariant-loop-other
invariant-loop-other l = l.rows ≡ l.fn.rows ++ map (carried_by l.row) (take l.other-index l.run)
