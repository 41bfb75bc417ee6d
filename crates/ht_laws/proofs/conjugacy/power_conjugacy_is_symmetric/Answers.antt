use Rattle.ht_pair.proofs.PowerLaws.{power_conjugate_sym, power_conjugate_some}
use Rattle.ht_laws.proofs.conjugacy.power_conjugacy_is_symmetric.Goals as goal

pub returns-clause-symmetric : goal.returns-clause-symmetric
returns-clause-symmetric c = power_conjugate_sym

pub returns-clause-some : goal.returns-clause-some
returns-clause-some c = power_conjugate_some
