use Rattle.ht_laws.proofs.GroupLaws.{product_carries}
use Rattle.ht_laws.proofs.group.products_carry_in_turn.Goals as goal

pub returns : goal.returns
returns c = product_carries
