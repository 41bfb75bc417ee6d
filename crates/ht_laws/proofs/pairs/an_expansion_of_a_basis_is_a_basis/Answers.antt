use Rattle.ht_pair.proofs.BasisLaws.{basis_expanded}
use Rattle.ht_pair.proofs.Merging.{basis_merged}
use Rattle.ht_laws.proofs.ExpansionChains.{expanded_held, expanded_more}
use Rattle.ht_laws.proofs.pairs.an_expansion_of_a_basis_is_a_basis.Goals as goal

pub returns-clause-basis : goal.returns-clause-basis
returns-clause-basis c = λ shape front tail x. (basis_expanded shape front tail x, basis_merged shape front tail x)

pub returns-clause-held : goal.returns-clause-held
returns-clause-held c = expanded_held

pub returns-clause-more : goal.returns-clause-more
returns-clause-more c = expanded_more
