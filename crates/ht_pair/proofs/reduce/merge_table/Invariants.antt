use Rattle.std.specs.Vec.Iter.{into_iter_items}
use Rattle.ht_pair.proofs.Canonical.{AreMergedUpTo}
use Rattle.ht_pair.proofs.reduce.merge_table.Given as goal

abbrev pub invariant-loop-row : goal.invariant-loop-row
invariant-loop-row l = AreMergedUpTo l.shape l.fn.rows l.merged.items (into_iter_items l.row-iterator)
