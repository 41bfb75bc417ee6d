use Rattle.std.proofs.Common.{vec_len}
use Rattle.ht_pair.specs.Merges.{MergesDown}
use Rattle.ht_pair.proofs.reduce.add_row.Given as goal

abbrev pub invariant-loop-shape : goal.invariant-loop-shape
invariant-loop-shape l = MergesDown l.shape l.initial.merged.items l.initial.row l.merged.items l.row

abbrev pub decreases-loop-shape : goal.decreases-loop-shape
decreases-loop-shape l = vec_len l.merged
