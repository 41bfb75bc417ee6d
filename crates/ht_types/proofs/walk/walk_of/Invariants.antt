use Rattle.std.proofs.Common.{◌+◌, ◌-◌, ◌*◌, length}
use Rattle.ht_types.proofs.OnwardLaws.{IsOnWay}
use Rattle.ht_types.proofs.SeenLaws.{rows_in}
use Rattle.ht_types.proofs.walk.walk_of.Given as goal

abbrev pub invariant-walking : goal.invariant-walking
invariant-walking l = IsOnWay l.t.element.shape (rows_in l.direction l.t.element.rows) l.t.quasi.basis.words l.word l.walk

abbrev pub decreases-walking : goal.decreases-walking
decreases-walking l = length l.t.quasi.basis.words * (length l.word.letters + 1) - l.walk.steps
