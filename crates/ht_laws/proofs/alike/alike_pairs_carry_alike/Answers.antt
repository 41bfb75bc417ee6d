use Rattle.ht_pair.specs.Steps.{Carries}
use Rattle.ht_laws.proofs.CarriedLaws.{alike_from_carries, carries_there, same_of_alike}
use Rattle.ht_laws.proofs.alike.alike_pairs_carry_alike.Goals as goal

pub returns-clause-by_one : goal.returns-clause-by_one
returns-clause-by_one c = alike_from_carries

pub returns-clause-by_each : goal.returns-clause-by_each
returns-clause-by_each c = λ shape p q pair_p pair_q alike k u v. same_of_alike shape (λ p. Carries shape p k u v) (λ p q pairs. carries_there shape p q pairs k u v) p q pair_p pair_q alike
