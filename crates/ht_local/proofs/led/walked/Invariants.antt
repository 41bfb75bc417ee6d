use Rattle.std.proofs.Common.{◌-◌, ◌≤◌}
use Rattle.ht_types.specs.Flows.{power_in}
use Rattle.ht_local.specs.Crossings.{IsLedBy}
use Rattle.ht_local.proofs.led.walked.Given as goal

abbrev pub invariant-walking : goal.invariant-walking
invariant-walking l = (l.way.walk.steps ≤ l.steps) × IsLedBy l.t (power_in l.direction l.way.walk.steps) l.word l.way

abbrev pub decreases-walking : goal.decreases-walking
decreases-walking l = l.steps - l.way.walk.steps
