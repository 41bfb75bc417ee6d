use Rattle.std.proofs.Common.{◌≡◌, ◌++◌, drop}
use Rattle.ht_sample.specs.Groups.{turn_from}
use Rattle.ht_sample.proofs.groups.add_turn.Given as goal

abbrev pub invariant-loop-to : goal.invariant-loop-to
invariant-loop-to l = l.rows ++ turn_from l.first l.from (drop l.to-index l.behind) ≡ l.initial.rows ++ turn_from l.first l.first l.behind
