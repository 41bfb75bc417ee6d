use Rattle.std.proofs.Common.{◌≤◌, ◌+◌, max}
use Rattle.ht_power.proofs.DivisorLaws.{AreDivisors}
use Rattle.ht_power.proofs.divisors.divisors.Given as goal

abbrev pub invariant-loop-d : goal.invariant-loop-d
invariant-loop-d l = record { divisors : AreDivisors l.number l.d l.divisors.items; within : l.d ≤ max 2 (l.fn.most + 1) }
