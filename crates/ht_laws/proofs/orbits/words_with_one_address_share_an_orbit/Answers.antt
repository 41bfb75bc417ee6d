use Rattle.ht_laws.proofs.OrbitLaws.{same_address}
use Rattle.ht_laws.proofs.orbits.words_with_one_address_share_an_orbit.Goals as goal

pub returns : goal.returns
returns c = same_address
