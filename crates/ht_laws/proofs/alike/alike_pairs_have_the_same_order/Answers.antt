use Rattle.ht_pair.specs.Orders.{IsOrder, HasInfiniteOrder, IsPeriodicOrder}
use Rattle.ht_laws.proofs.CarriedLaws.{same_of_alike, order_alike, infinite_order_alike, periodic_order_alike}
use Rattle.ht_laws.proofs.alike.alike_pairs_have_the_same_order.Goals as goal

pub returns-clause-order : goal.returns-clause-order
returns-clause-order c = λ shape p q pair_p pair_q alike k. same_of_alike shape (λ p. IsOrder shape p k) (λ p q pairs. order_alike shape p q pairs k) p q pair_p pair_q alike

pub returns-clause-infinite : goal.returns-clause-infinite
returns-clause-infinite c = λ shape. same_of_alike shape (HasInfiniteOrder shape) (infinite_order_alike shape)

pub returns-clause-periodic : goal.returns-clause-periodic
returns-clause-periodic c = λ shape p q pair_p pair_q alike X k. same_of_alike shape (λ p. IsPeriodicOrder shape p X k) (λ p q pairs. periodic_order_alike shape p q pairs X k) p q pair_p pair_q alike
