use Rattle.ht_laws.proofs.GroupLaws.{product_turned}
use Rattle.ht_laws.proofs.group.inverses_multiply_in_reverse_order.Goals as goal

pub returns : goal.returns
returns c = product_turned
