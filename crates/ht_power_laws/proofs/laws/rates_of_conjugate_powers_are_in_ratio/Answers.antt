use Rattle.ht_power_laws.proofs.RatesInRatio.{rates_in_ratio, rates_in_ratio_minus}
use Rattle.ht_power_laws.proofs.laws.rates_of_conjugate_powers_are_in_ratio.Goals as goal

pub returns-clause-plus : goal.returns-clause-plus
returns-clause-plus c = rates_in_ratio

pub returns-clause-minus : goal.returns-clause-minus
returns-clause-minus c = rates_in_ratio_minus
