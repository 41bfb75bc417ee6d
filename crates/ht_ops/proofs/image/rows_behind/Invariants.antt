use Rattle.std.proofs.Common.{◌≡◌, map, take}
use Rattle.ht_word.specs.Words.{◌·◌}
use Rattle.ht_pair.specs.declared.row.Row.{Row}
use Rattle.ht_ops.proofs.image.rows_behind.Given as goal

abbrev pub invariant-loop-row : goal.invariant-loop-row
invariant-loop-row l = l.moved ≡ map (λ (row : Row). record { from = l.base · row.from.letters; to = row.to }) (take l.row-index l.rows)
