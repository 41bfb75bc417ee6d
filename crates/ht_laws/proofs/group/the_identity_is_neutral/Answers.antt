use Rattle.ht_laws.proofs.GroupLaws.{identity_after, identity_before}
use Rattle.ht_laws.proofs.group.the_identity_is_neutral.Goals as goal

pub returns-clause-after : goal.returns-clause-after
returns-clause-after c = identity_after

pub returns-clause-before : goal.returns-clause-before
returns-clause-before c = identity_before
