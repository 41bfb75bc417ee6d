use Rattle.std.proofs.Common.{◌≡◌, None, replicate}
use Rattle.ht_local.proofs.values.no_lists.Given as goal

abbrev pub invariant-loop : goal.invariant-loop
invariant-loop l = l.lists.items ≡ replicate l.counter None
