use Rattle.ht_pieces.proofs.AtomEnds.{has_attractor, has_repeller}
use Rattle.ht_types.proofs.TurnLaws.{HasSemiNormal}
use Rattle.ht_pieces.proofs.laws.each_atom_has_both_ends.Goals as goal

pub returns : goal.returns
returns c = λ shape f X pair semi places atom.
    let h : HasSemiNormal shape f X = record { pair = pair; semi = semi } in
    (has_attractor h atom, has_repeller h atom)
