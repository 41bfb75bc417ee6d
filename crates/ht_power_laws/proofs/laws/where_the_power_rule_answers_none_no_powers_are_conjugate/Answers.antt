use Rattle.ht_power_laws.proofs.RefutedPowers.{rule_none}
use Rattle.ht_power_laws.proofs.laws.where_the_power_rule_answers_none_no_powers_are_conjugate.Goals as goal

pub returns : goal.returns
returns c = rule_none
