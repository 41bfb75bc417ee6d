use Rattle.ht_laws.proofs.OneAnswerLaws.{rule_once}
use Rattle.ht_laws.proofs.power_rule.two_answers_of_the_power_rule_differ_in_the_conjugator_alone.Goals as goal

pub returns : goal.returns
returns c = rule_once
