use Rattle.std.proofs.Common.{◌≤◌, ◌<◌, ◌^◌}
use Rattle.ht_power.proofs.PeriodLaws.{Joins}
use Rattle.ht_power.proofs.rates.joined_period.Given as goal

abbrev pub invariant-loop-place : goal.invariant-loop-place
invariant-loop-place l = record { joins : Joins l.t l.number l.place l.joined; low : 1 ≤ l.joined; narrow : l.joined < 2 ^ 127 }
