use Rattle.ht_laws.proofs.AlikePowerRule.{rule_alike}
use Rattle.ht_laws.proofs.power_rule.the_power_rule_speaks_of_elements.Goals as goal

pub returns : goal.returns
returns c = rule_alike
