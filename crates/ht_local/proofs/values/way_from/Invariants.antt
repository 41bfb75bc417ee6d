use Rattle.std.proofs.Common.{◌<◌, ℕ, length, All}
use Rattle.ht_local.proofs.values.way_from.Given as goal

abbrev pub invariant-loop : goal.invariant-loop
invariant-loop l = record { at : l.at < length l.k; way : All (λ (i : ℕ). i < length l.k) l.way.items }
