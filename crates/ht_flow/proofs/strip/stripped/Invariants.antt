use Rattle.std.proofs.Common.{◌≤◌, ◌+◌, length}
use Rattle.ht_flow.specs.Rounds.{BeginsTimes}
use Rattle.ht_flow.proofs.strip.stripped.Given as goal

abbrev pub invariant-stripping : goal.invariant-stripping
invariant-stripping l = (l.times + length l.left ≤ length l.fn.letters) × BeginsTimes l.times l.by l.fn.letters l.left

abbrev pub decreases-stripping : goal.decreases-stripping
decreases-stripping l = length l.left
