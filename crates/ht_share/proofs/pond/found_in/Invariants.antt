use Rattle.std.proofs.Common.{◌≤◌, length, drop}
use Rattle.ht_share.specs.PondLists.{AreFound}
use Rattle.ht_share.proofs.pond.found_in.Given as goal

abbrev pub invariant-loop-place : goal.invariant-loop-place
invariant-loop-place l = (l.place ≤ length l.inner) × AreFound l.t.element.shape l.t.element.rows l.t.quasi.basis.words (drop l.place l.inner) l.found.items

abbrev pub decreases-loop-place : goal.decreases-loop-place
decreases-loop-place l = l.place
