use Rattle.ht_pair.specs.Reaches.{HasAhead, HasBehind}
use Rattle.ht_laws.proofs.CarriedLaws.{same_of_alike, ahead_alike, behind_alike}
use Rattle.ht_laws.proofs.alike.alike_pairs_have_the_same_reaches.Goals as goal

pub returns-clause-ahead : goal.returns-clause-ahead
returns-clause-ahead c = λ shape p q pair_p pair_q alike X x reach. same_of_alike shape (λ p. HasAhead shape p X x reach) (λ p q pairs. ahead_alike shape p q pairs X x reach) p q pair_p pair_q alike

pub returns-clause-behind : goal.returns-clause-behind
returns-clause-behind c = λ shape p q pair_p pair_q alike X x reach. same_of_alike shape (λ p. HasBehind shape p X x reach) (λ p q pairs. behind_alike shape p q pairs X x reach) p q pair_p pair_q alike
