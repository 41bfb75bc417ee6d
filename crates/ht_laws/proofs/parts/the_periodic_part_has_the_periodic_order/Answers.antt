use Rattle.ht_laws.proofs.PeriodicOrderLaws.{periodic_part_order}
use Rattle.ht_laws.proofs.parts.the_periodic_part_has_the_periodic_order.Goals as goal

pub returns : goal.returns
returns c = periodic_part_order
