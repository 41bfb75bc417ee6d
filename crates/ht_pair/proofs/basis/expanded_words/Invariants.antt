use Rattle.std.proofs.Common.{◌≡◌, ◌++◌, drop}
use Rattle.ht_pair.specs.HeldBases.{expanded_at}
use Rattle.ht_pair.proofs.basis.expanded_words.Given as goal

-- what is left to be added are the words behind, expanded
abbrev pub invariant-loop-place : goal.invariant-loop-place
invariant-loop-place l = l.expanded ++ expanded_at l.shape (drop l.place l.words) (drop l.place l.marks) ≡ expanded_at l.shape l.words l.marks
