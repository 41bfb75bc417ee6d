use Rattle.std.proofs.Common.{◌≡◌, ◌++◌, drop}
use Rattle.ht_cycles.specs.Runs.{lengths_of}
use Rattle.ht_cycles.proofs.profiles.cycle_lengths.Given as goal

abbrev pub invariant-loop-place : goal.invariant-loop-place
invariant-loop-place l = l.lengths.items ++ lengths_of (drop l.place l.t.kinds) ≡ lengths_of l.t.kinds
