use Rattle.ht_types.proofs.AtomLaws.{atoms_apart}
use Rattle.ht_laws.proofs.orbits.atoms_are_apart.Goals as goal

pub returns : goal.returns
returns c = atoms_apart
