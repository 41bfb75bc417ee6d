use Rattle.std.proofs.Common.{◌≡◌}
use Rattle.ht_sample.specs.Groups.{groups}
use Rattle.ht_sample.proofs.groups.rows_of_groups.Given as goal

abbrev pub invariant-loop-number : goal.invariant-loop-number
invariant-loop-number l = l.rows ≡ groups l.number l.words
