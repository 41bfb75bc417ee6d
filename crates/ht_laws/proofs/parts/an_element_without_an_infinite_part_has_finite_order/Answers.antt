use Rattle.ht_laws.proofs.FiniteOrderLaws.{finite_where_empty, order_where_empty}
use Rattle.ht_laws.proofs.parts.an_element_without_an_infinite_part_has_finite_order.Goals as goal

pub returns-clause-finite : goal.returns-clause-finite
returns-clause-finite c = finite_where_empty

pub returns-clause-order : goal.returns-clause-order
returns-clause-order c = order_where_empty
