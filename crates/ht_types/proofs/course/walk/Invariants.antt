use Rattle.std.proofs.Common.{◌-◌, length}
use Rattle.ht_types.proofs.WalkLaws.{IsUnderWay}
use Rattle.ht_types.proofs.course.walk.Given as goal

abbrev pub invariant-walk : goal.invariant-walk
invariant-walk l = IsUnderWay l.steps l.path.items l.fn.start l.place l.fn.states l.states

abbrev pub decreases-walk : goal.decreases-walk
decreases-walk l = length l.steps - length l.path.items
