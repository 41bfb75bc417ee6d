use Rattle.std.proofs.Common.{◌≡◌, None, replicate}
use Rattle.ht_local.proofs.propagation.with_first.Given as goal

abbrev pub invariant-places : goal.invariant-places
invariant-places l = l.known.items ≡ replicate l.counter None
