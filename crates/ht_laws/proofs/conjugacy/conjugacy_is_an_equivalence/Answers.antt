use Rattle.ht_pair.proofs.ConjugacyLaws.{conjugate_refl, conjugate_sym, conjugate_trans}
use Rattle.ht_laws.proofs.conjugacy.conjugacy_is_an_equivalence.Goals as goal

pub returns-clause-reflexive : goal.returns-clause-reflexive
returns-clause-reflexive c = conjugate_refl

pub returns-clause-symmetric : goal.returns-clause-symmetric
returns-clause-symmetric c = conjugate_sym

pub returns-clause-transitive : goal.returns-clause-transitive
returns-clause-transitive c = conjugate_trans
