use Rattle.std.proofs.Common.{length, take}
use Rattle.ht_local.specs.Borders.{HoldsFront}
use Rattle.ht_local.proofs.turns.held_after.Given as goal

abbrev pub invariant-loop-letter : goal.invariant-loop-letter
invariant-loop-letter l = HoldsFront l.by (take l.letter-index l.letters) (length l.by) l.held
