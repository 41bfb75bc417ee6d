use Rattle.ht_laws.proofs.GroupLaws.{products_alike, product_each}
use Rattle.ht_laws.proofs.group.products_are_of_elements.Goals as goal

pub returns-clause-alike : goal.returns-clause-alike
returns-clause-alike c = products_alike

pub returns-clause-each : goal.returns-clause-each
returns-clause-each c = product_each
