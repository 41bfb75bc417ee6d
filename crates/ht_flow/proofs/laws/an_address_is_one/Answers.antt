use Rattle.ht_flow.proofs.AddressLaws.{address_once}
use Rattle.ht_flow.proofs.laws.an_address_is_one.Goals as goal

pub returns : goal.returns
returns c = address_once
