use Rattle.std.proofs.Common.{◌≡◌, map}
use Rattle.ht_pair.specs.Bases.{roots_to}
use Rattle.ht_pair.proofs.moves.identity_rows.Given as goal

abbrev pub invariant-loop-before : goal.invariant-loop-before
invariant-loop-before l = l.rows ≡ map (λ x. record { from = x; to = x }) (roots_to l.before)
