use Rattle.ht_pieces.proofs.KeptPieces.{kept_union}
use Rattle.ht_pieces.proofs.laws.what_is_kept_is_a_union_of_atoms.Goals as goal

pub returns : goal.returns
returns c = λ shape f X pair semi W infinite kept places atom. kept_union (record { pair = pair; semi = semi }) infinite kept atom
