use Rattle.ht_num.proofs.NumberLaws.{once_least}
use Rattle.ht_laws.proofs.kinds.an_element_has_one_order.Goals as goal

pub returns-clause-one : goal.returns-clause-one
returns-clause-one c = λ shape p k j. once_least k j

pub returns-clause-periodic : goal.returns-clause-periodic
returns-clause-periodic c = λ shape p X k j. once_least k j
