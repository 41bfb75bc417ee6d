use Rattle.std.proofs.Common.{take, ◌≤◌}
use Rattle.ht_share.specs.InnerWords.{IsTrailing}
use Rattle.ht_share.proofs.inner.trailing_ones.Given as goal

abbrev pub invariant-loop-letter : goal.invariant-loop-letter
invariant-loop-letter l = record { few : l.count ≤ l.letter-index; so_far : IsTrailing (take l.letter-index l.letters) l.count }
