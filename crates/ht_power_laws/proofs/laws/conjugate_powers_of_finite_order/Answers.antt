use Rattle.ht_power_laws.proofs.FinitePowers.{finite_powers}
use Rattle.ht_power_laws.proofs.laws.conjugate_powers_of_finite_order.Goals as goal

pub returns : goal.returns
returns c = finite_powers
