use Rattle.ht_pair.proofs.CarriesLaws.{carries_extends, carries_children}
use Rattle.ht_pair.proofs.TurnedLaws.{carries_of_turned, carries_to_turned}
use Rattle.ht_laws.proofs.GroupLaws.{carries_by_power}
use Rattle.ht_laws.proofs.PrefixLaws.{moves_carries}
use Rattle.ht_laws.proofs.powers.powers_carry_prefixes.Goals as goal

pub returns-clause-power : goal.returns-clause-power
returns-clause-power c = carries_by_power

pub returns-clause-moved : goal.returns-clause-moved
returns-clause-moved c = moves_carries

pub returns-clause-turned : goal.returns-clause-turned
returns-clause-turned c = λ shape p k u v. (carries_of_turned shape p k u v, carries_to_turned shape p k u v)

pub returns-clause-longer : goal.returns-clause-longer
returns-clause-longer c = carries_extends

pub returns-clause-children : goal.returns-clause-children
returns-clause-children c = λ shape p k u v pair word each. carries_children shape p pair k u v word (λ a letter. each a letter.0 letter.1)
