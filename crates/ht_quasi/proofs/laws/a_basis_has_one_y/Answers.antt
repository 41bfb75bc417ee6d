use Rattle.ht_quasi.proofs.YLaws.{y_single}
use Rattle.ht_quasi.proofs.laws.a_basis_has_one_y.Goals as goal

pub returns : goal.returns
returns c = y_single
