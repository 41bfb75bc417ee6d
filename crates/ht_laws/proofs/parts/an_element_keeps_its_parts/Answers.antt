use Rattle.ht_laws.proofs.KeptPartLaws.{periodic_part_kept, infinite_part_kept, long_infinite_part_kept}
use Rattle.ht_laws.proofs.parts.an_element_keeps_its_parts.Goals as goal

pub returns-clause-periodic : goal.returns-clause-periodic
returns-clause-periodic c = periodic_part_kept

pub returns-clause-infinite : goal.returns-clause-infinite
returns-clause-infinite c = infinite_part_kept

pub returns-clause-long : goal.returns-clause-long
returns-clause-long c = long_infinite_part_kept
