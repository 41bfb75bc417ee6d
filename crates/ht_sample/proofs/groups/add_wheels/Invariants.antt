use Rattle.std.proofs.Common.{◌≡◌, ◌++◌, length}
use Rattle.ht_sample.specs.Groups.{wheel, in_fours}
use Rattle.ht_sample.proofs.groups.add_wheels.Given as goal

abbrev pub invariant-loop-left : goal.invariant-loop-left
invariant-loop-left l = l.rows ++ in_fours wheel l.left ≡ l.initial.rows ++ in_fours wheel l.words

abbrev pub decreases-loop-left : goal.decreases-loop-left
decreases-loop-left l = length l.left
