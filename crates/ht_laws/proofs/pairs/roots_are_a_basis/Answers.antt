use Rattle.ht_pair.proofs.BasisLaws.{roots_basis}
use Rattle.ht_laws.proofs.pairs.roots_are_a_basis.Goals as goal

pub returns : goal.returns
returns c = roots_basis
