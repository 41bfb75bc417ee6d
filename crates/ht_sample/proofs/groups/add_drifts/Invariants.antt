use Rattle.std.proofs.Common.{◌≡◌, ◌++◌, length}
use Rattle.ht_sample.specs.Groups.{drift, in_twos}
use Rattle.ht_sample.proofs.groups.add_drifts.Given as goal

abbrev pub invariant-loop-left : goal.invariant-loop-left
invariant-loop-left l = l.rows ++ in_twos drift l.left ≡ l.initial.rows ++ in_twos drift l.words

abbrev pub decreases-loop-left : goal.decreases-loop-left
decreases-loop-left l = length l.left
