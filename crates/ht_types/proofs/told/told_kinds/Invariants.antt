use Rattle.std.proofs.Common.{◌≡◌, map}
use Rattle.ht_types.specs.WordSteps.{told_kind}
use Rattle.ht_types.proofs.told.told_kinds.Given as goal

abbrev pub invariant-loop-ahead : goal.invariant-loop-ahead
invariant-loop-ahead l = l.kinds ≡ map (λ p. told_kind p.0 p.1) l.yielded
