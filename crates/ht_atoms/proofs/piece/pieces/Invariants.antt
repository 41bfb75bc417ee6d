use Rattle.ht_atoms.specs.Pieces.{ArePiecesBelow}
use Rattle.ht_atoms.proofs.piece.pieces.Given as goal

abbrev pub invariant-loop-place : goal.invariant-loop-place
invariant-loop-place l = ArePiecesBelow l.marks l.labels l.place l.slots.items l.pieces.items
