use Rattle.std.proofs.Common.{◌≡◌, ◌++◌, drop}
use Rattle.ht_sample.specs.Groups.{rows_between}
use Rattle.ht_sample.proofs.elements.rows_from_to.Given as goal

abbrev pub invariant-loop-place : goal.invariant-loop-place
invariant-loop-place l = l.rows ++ rows_between (drop l.place l.from) (drop l.place l.to) ≡ rows_between l.from l.to
