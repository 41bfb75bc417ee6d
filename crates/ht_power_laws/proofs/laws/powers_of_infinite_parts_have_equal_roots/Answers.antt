use Rattle.ht_power_laws.proofs.EqualRootsLaw.{equal_roots}
use Rattle.ht_power_laws.proofs.laws.powers_of_infinite_parts_have_equal_roots.Goals as goal

pub returns : goal.returns
returns c = equal_roots
