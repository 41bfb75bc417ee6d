use Rattle.ht_counterparts.proofs.ConjugateElements.{infinite_order_across, orders_across}
use Rattle.ht_counterparts.proofs.laws.conjugate_elements_have_one_order.Goals as goal

pub returns-clause-finite : goal.returns-clause-finite
returns-clause-finite c = λ shape f g k pair_f pair_g a. orders_across pair_f pair_g a k

pub returns-clause-infinite : goal.returns-clause-infinite
returns-clause-infinite c = λ shape f g pair_f pair_g. infinite_order_across pair_f pair_g
