use Rattle.std.proofs.Common.{◌≡◌}
use Rattle.ht_pair.specs.Bases.{roots_to}
use Rattle.ht_pair.proofs.basis.root_words.Given as goal

abbrev pub invariant-loop-before : goal.invariant-loop-before
invariant-loop-before l = l.words ≡ roots_to l.before
