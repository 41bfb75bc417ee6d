use Rattle.ht_pieces.proofs.KeptAtoms.{atom_is_kept}
use Rattle.ht_pieces.proofs.laws.an_element_keeps_each_atom.Goals as goal

pub returns : goal.returns
returns c = λ shape f X pair semi places atom. atom_is_kept (record { pair = pair; semi = semi }) atom
