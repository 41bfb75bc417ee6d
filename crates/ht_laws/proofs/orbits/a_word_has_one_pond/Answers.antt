use Rattle.ht_laws.proofs.OrbitLaws.{pond_long, pond_once}
use Rattle.ht_laws.proofs.orbits.a_word_has_one_pond.Goals as goal

pub returns-clause-long : goal.returns-clause-long
returns-clause-long c = pond_long

pub returns-clause-one : goal.returns-clause-one
returns-clause-one c = pond_once
