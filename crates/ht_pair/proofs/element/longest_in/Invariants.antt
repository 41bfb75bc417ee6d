use Rattle.std.proofs.Common.{◌≡◌, max, drop}
use Rattle.ht_pair.specs.Pairs.{longest_of}
use Rattle.ht_pair.proofs.element.longest_in.Given as goal

abbrev pub invariant-loop-row : goal.invariant-loop-row
invariant-loop-row l = max l.longest (longest_of (drop l.row-index l.rows)) ≡ longest_of l.rows
