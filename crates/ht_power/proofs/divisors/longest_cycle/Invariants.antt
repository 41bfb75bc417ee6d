use Rattle.std.proofs.Common.{take}
use Rattle.ht_power.specs.Cycles.{IsLongest}
use Rattle.ht_power.proofs.divisors.longest_cycle.Given as goal

abbrev pub invariant-loop-place : goal.invariant-loop-place
invariant-loop-place l = IsLongest l.t.element.shape l.t.element.rows (take l.place l.t.quasi.basis.words) l.longest
