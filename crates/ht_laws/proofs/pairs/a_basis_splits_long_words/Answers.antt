use Rattle.ht_pair.proofs.BasisLaws.{basis_holds, basis_single}
use Rattle.ht_laws.proofs.pairs.a_basis_splits_long_words.Goals as goal

pub returns-clause-some : goal.returns-clause-some
returns-clause-some c = λ shape X u basis. basis_holds shape X basis u

pub returns-clause-one : goal.returns-clause-one
returns-clause-one c = λ shape X u x y basis. basis_single shape X basis u x y
