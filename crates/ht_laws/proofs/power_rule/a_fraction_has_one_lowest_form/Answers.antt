use Rattle.ht_num.proofs.FractionLaws.{ratio_once}
use Rattle.ht_laws.proofs.power_rule.a_fraction_has_one_lowest_form.Goals as goal

pub returns : goal.returns
returns c = ratio_once
