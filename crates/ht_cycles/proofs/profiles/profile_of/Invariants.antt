use Rattle.std.proofs.Common.{◌≡◌, ◌≤◌, ◌++◌, drop}
use Rattle.ht_cycles.specs.Runs.{runs}
use Rattle.ht_cycles.proofs.profiles.profile_of.Given as goal

abbrev pub invariant-loop-place : goal.invariant-loop-place
invariant-loop-place l = record { few : l.count ≤ l.place; so_far : l.profile ++ runs l.n l.count (drop l.place l.sorted) ≡ runs l.n 0 l.sorted }
