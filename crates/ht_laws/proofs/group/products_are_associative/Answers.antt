use Rattle.ht_laws.proofs.GroupLaws.{product_assoc}
use Rattle.ht_laws.proofs.group.products_are_associative.Goals as goal

pub returns : goal.returns
returns c = product_assoc
