use Rattle.std.proofs.Common.{◌<◌, ◌^◌}
use Rattle.ht_power.proofs.RateSums.{Counts}
use Rattle.ht_power.proofs.rates.rate_sum.Given as goal

abbrev pub invariant-loop-place : goal.invariant-loop-place
invariant-loop-place l = record { counts : Counts l.direction l.t l.period l.place l.total; narrow : l.total < 2 ^ 127 }
