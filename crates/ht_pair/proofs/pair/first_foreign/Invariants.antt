use Rattle.std.proofs.Common.{take}
use Rattle.ht_pair.specs.RowsFaults.{AreRowsOf}
use Rattle.ht_pair.proofs.pair.first_foreign.Given as goal

abbrev pub invariant-loop-index : goal.invariant-loop-index
invariant-loop-index l = AreRowsOf l.shape (take l.index l.rows)
