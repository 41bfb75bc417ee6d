use Rattle.ht_power_laws.proofs.PowerBases.{powers_fit, parts_fit}
use Rattle.ht_power_laws.proofs.laws.powers_and_parts_fit_the_budget.Goals as goal

pub returns-clause-powers : goal.returns-clause-powers
returns-clause-powers c = powers_fit

pub returns-clause-parts : goal.returns-clause-parts
returns-clause-parts c = parts_fit
