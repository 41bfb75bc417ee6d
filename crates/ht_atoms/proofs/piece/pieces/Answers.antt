use Rattle.std.proofs.Common.{List, ℕ, sym, subst, arith}
use Rattle.ht_atoms.specs.Pieces.{ArePieces}
use Rattle.ht_atoms.proofs.PieceLaws.{pieces_are}
use Rattle.ht_atoms.proofs.piece.pieces.Goals as goal

pub returns : goal.returns
returns c =
    subst (λ (pieces : List (List ℕ)). ArePieces c.args.marks.now c.args.labels.now pieces) (sym c.from_vec.ensures)
    (pieces_are c.args.marks.now c.args.labels.now c.loop-place.place c.loop-place.slots.items c.loop-place.pieces.items (omega (arith, c.loop-place-test.false, c.loop-place.auto.place-end)) c.loop-place.invariant)
