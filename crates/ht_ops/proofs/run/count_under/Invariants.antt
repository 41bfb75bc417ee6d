use Rattle.std.proofs.Common.{All, take}
use Rattle.ht_word.specs.Words.{IsUnder}
use Rattle.ht_pair.specs.declared.row.Row.{Row}
use Rattle.ht_ops.proofs.run.count_under.Given as goal

abbrev pub invariant-loop-index : goal.invariant-loop-index
invariant-loop-index l = All (λ (row : Row). IsUnder row.from l.word) (take l.index l.rows)
