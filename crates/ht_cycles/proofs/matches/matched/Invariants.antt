use Rattle.std.proofs.Common.{◌<◌}
use Rattle.ht_cycles.specs.MatchedLengths.{MatchLengths}
use Rattle.ht_cycles.proofs.matches.matched.Given as goal

abbrev pub invariant-loop-m : goal.invariant-loop-m
invariant-loop-m l = MatchLengths l.f.element.shape l.f.element.rows l.f.quasi.basis.words l.g.element.rows l.g.quasi.basis.words (λ k. k < l.m) l.rows
