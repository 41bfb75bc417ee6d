use Rattle.std.specs.Vec.Iter.{into_iter_items}
use Rattle.ht_ops.proofs.Turning.{AreTurned}
use Rattle.ht_ops.proofs.inverses.turned_rows.Given as goal

abbrev pub invariant-loop-row : goal.invariant-loop-row
invariant-loop-row l = AreTurned l.fn.rows l.turned (into_iter_items l.row-iterator)
