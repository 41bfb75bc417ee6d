use Rattle.std.proofs.Common.{drop}
use Rattle.ht_ops.proofs.BlockLaws.{AreBlocksUpTo}
use Rattle.ht_ops.proofs.block.blocks_of.Given as goal

abbrev pub invariant-loop-row : goal.invariant-loop-row
invariant-loop-row l = AreBlocksUpTo l.fn.shape l.rows l.others l.blocks (drop l.row-index l.rows)
