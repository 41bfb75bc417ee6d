use Rattle.std.proofs.Common.{◌≡◌, ◌++◌}
use Rattle.ht_word.specs.Words.{child}
use Rattle.ht_pair.specs.Merges.{each_to}
use Rattle.ht_cycles.proofs.matches.add_children.Given as goal

abbrev pub invariant-loop-before : goal.invariant-loop-before
invariant-loop-before l = l.words ≡ l.fn.words ++ each_to (child l.word) l.before
