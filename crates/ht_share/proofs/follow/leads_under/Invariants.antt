use Rattle.std.proofs.Common.{◌≤◌, ◌-◌}
use Rattle.ht_share.specs.PondWalks.{ComesTo}
use Rattle.ht_share.proofs.follow.leads_under.Given as goal

abbrev pub invariant-walking : goal.invariant-walking
invariant-walking l = (l.walk.steps ≤ l.steps) × ComesTo l.t.element.shape l.t.element.rows l.t.quasi.basis.words l.u l.walk

abbrev pub decreases-walking : goal.decreases-walking
decreases-walking l = l.steps - l.walk.steps
