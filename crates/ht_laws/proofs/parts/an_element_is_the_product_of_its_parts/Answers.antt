use Rattle.ht_laws.proofs.KeptPartLaws.{periodic_then_infinite, infinite_then_periodic}
use Rattle.ht_laws.proofs.parts.an_element_is_the_product_of_its_parts.Goals as goal

pub returns-clause-periodic_first : goal.returns-clause-periodic_first
returns-clause-periodic_first c = periodic_then_infinite

pub returns-clause-infinite_first : goal.returns-clause-infinite_first
returns-clause-infinite_first c = infinite_then_periodic
