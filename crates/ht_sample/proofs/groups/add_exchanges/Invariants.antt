use Rattle.std.proofs.Common.{◌≡◌, ◌++◌, length}
use Rattle.ht_sample.specs.Groups.{exchange, in_twos}
use Rattle.ht_sample.proofs.groups.add_exchanges.Given as goal

abbrev pub invariant-loop-left : goal.invariant-loop-left
invariant-loop-left l = l.rows ++ in_twos exchange l.left ≡ l.initial.rows ++ in_twos exchange l.words

abbrev pub decreases-loop-left : goal.decreases-loop-left
decreases-loop-left l = length l.left
