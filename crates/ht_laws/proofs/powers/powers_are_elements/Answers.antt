use Rattle.ht_pair.proofs.PowerLaws.{power_exists, power_once, zero_power, power_add, power_of_inverse, power_to_inverse}
use Rattle.ht_laws.proofs.powers.powers_are_elements.Goals as goal

pub returns-clause-some : goal.returns-clause-some
returns-clause-some c = power_exists

pub returns-clause-one : goal.returns-clause-one
returns-clause-one c = power_once

pub returns-clause-none : goal.returns-clause-none
returns-clause-none c = zero_power

pub returns-clause-sum : goal.returns-clause-sum
returns-clause-sum c = power_add

pub returns-clause-inverse : goal.returns-clause-inverse
returns-clause-inverse c = λ shape p q s k pair inverse. (power_of_inverse shape p q s k pair inverse, power_to_inverse shape p q s k pair inverse)
