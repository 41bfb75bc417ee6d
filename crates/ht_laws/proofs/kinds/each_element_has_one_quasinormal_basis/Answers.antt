use Rattle.ht_pair.proofs.QuasinormalLaws.{quasinormal_unique}
use Rattle.ht_pair.proofs.AlikePowerLaws.{quasinormal_alike, each_quasinormal}
use Rattle.ht_laws.proofs.kinds.each_element_has_one_quasinormal_basis.Goals as goal

pub returns-clause-some : goal.returns-clause-some
returns-clause-some c = each_quasinormal

pub returns-clause-one : goal.returns-clause-one
returns-clause-one c = quasinormal_unique

pub returns-clause-alike : goal.returns-clause-alike
returns-clause-alike c = quasinormal_alike
