use Rattle.ht_quasi.proofs.MirrorLaws.{quasinormal_inverse, quasinormal_turned}
use Rattle.ht_quasi.proofs.laws.an_inverse_has_the_same_basis.Goals as goal

pub returns-clause-turned : goal.returns-clause-turned
returns-clause-turned c = quasinormal_turned

pub returns-clause-inverse : goal.returns-clause-inverse
returns-clause-inverse c = quasinormal_inverse
