use Rattle.ht_pair.proofs.CarriesLaws.{carries_none, carries_add, carries_single, carries_back}
use Rattle.ht_laws.proofs.powers.powers_add_up.Goals as goal

pub returns-clause-none : goal.returns-clause-none
returns-clause-none c = carries_none

pub returns-clause-one : goal.returns-clause-one
returns-clause-one c = λ shape p k u v w pair. carries_single shape p pair k u v w

pub returns-clause-sum : goal.returns-clause-sum
returns-clause-sum c = λ shape p j k u v w pair. carries_add shape p pair j k u v w

pub returns-clause-back : goal.returns-clause-back
returns-clause-back c = λ shape p k u v pair. carries_back shape p pair k u v
