use Rattle.ht_pair.proofs.PowerLaws.{first_power}
use Rattle.ht_laws.proofs.GroupLaws.{powers_multiply}
use Rattle.ht_laws.proofs.powers.powers_of_powers_multiply.Goals as goal

pub returns-clause-one : goal.returns-clause-one
returns-clause-one c = first_power

pub returns-clause-power : goal.returns-clause-power
returns-clause-power c = powers_multiply
