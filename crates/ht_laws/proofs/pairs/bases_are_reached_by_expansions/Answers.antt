use Rattle.ht_laws.proofs.ExpansionChains.{any_first, reached_or_not, reached_from_roots, reached_size, basis_size, takes_at_most}
use Rattle.ht_laws.proofs.pairs.bases_are_reached_by_expansions.Goals as goal

pub returns-clause-many : goal.returns-clause-many
returns-clause-many c = reached_size

pub returns-clause-under : goal.returns-clause-under
returns-clause-under c = reached_or_not

pub returns-clause-any : goal.returns-clause-any
returns-clause-any c = any_first

pub returns-clause-roots : goal.returns-clause-roots
returns-clause-roots c = reached_from_roots

pub returns-clause-size : goal.returns-clause-size
returns-clause-size c = basis_size

pub returns-clause-most : goal.returns-clause-most
returns-clause-most c = takes_at_most
