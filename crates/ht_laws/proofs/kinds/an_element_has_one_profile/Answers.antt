use Rattle.ht_pair.proofs.PartLaws.{profile_once}
use Rattle.ht_laws.proofs.kinds.an_element_has_one_profile.Goals as goal

pub returns : goal.returns
returns c = profile_once
