use Rattle.ht_flow.proofs.AddressLaws.{address_shared, address_decides}
use Rattle.ht_flow.proofs.laws.addresses_tell_orbits.Goals as goal

pub returns : goal.returns
returns c = record {
  shared = address_decides;
  power = λ shape p X pair semi u w x y z v k j i a b carries. (address_shared shape p X pair semi u w x y z v k j i a b carries).2;
}
