use Rattle.ht_pair.proofs.CanonicalLaws.{canonical_alike}
use Rattle.ht_pair.proofs.ExistenceLaws.{canonical_exists}
use Rattle.ht_laws.proofs.pairs.each_element_has_one_canonical_pair.Goals as goal

pub returns-clause-some : goal.returns-clause-some
returns-clause-some c = canonical_exists

pub returns-clause-one : goal.returns-clause-one
returns-clause-one c = canonical_alike
