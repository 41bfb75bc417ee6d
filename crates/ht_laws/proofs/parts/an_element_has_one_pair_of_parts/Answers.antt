use Rattle.ht_pair.proofs.PartLaws.{parts_once}
use Rattle.ht_laws.proofs.parts.an_element_has_one_pair_of_parts.Goals as goal

pub returns : goal.returns
returns c = parts_once
