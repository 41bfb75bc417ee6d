use Rattle.std.proofs.Common.{◌≡◌, ◌++◌}
use Rattle.ht_local.proofs.rows.add_rows.Given as goal

abbrev pub invariant-loop-row : goal.invariant-loop-row
invariant-loop-row l = l.rows ≡ l.fn.rows ++ l.yielded
