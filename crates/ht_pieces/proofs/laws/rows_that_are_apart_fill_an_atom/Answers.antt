use Rattle.ht_types.proofs.TurnLaws.{HasSemiNormal}
use Rattle.ht_pieces.proofs.FilledAtoms.{conjugator_fills_atom}
use Rattle.ht_pieces.proofs.laws.rows_that_are_apart_fill_an_atom.Goals as goal

pub returns : goal.returns
returns c = λ shape f g X Y pair_f pair_g semi_f semi_g k l atom other h.
    let first : HasSemiNormal shape f X = record { pair = pair_f; semi = semi_f } in
    let second : HasSemiNormal shape g Y = record { pair = pair_g; semi = semi_g } in
    conjugator_fills_atom first second atom other
