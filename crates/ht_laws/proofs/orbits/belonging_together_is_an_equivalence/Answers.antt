use Rattle.ht_laws.proofs.TogetherLaws.{together_refl, together_sym, together_trans}
use Rattle.ht_laws.proofs.orbits.belonging_together_is_an_equivalence.Goals as goal

pub returns-clause-reflexive : goal.returns-clause-reflexive
returns-clause-reflexive c = together_refl

pub returns-clause-symmetric : goal.returns-clause-symmetric
returns-clause-symmetric c = together_sym

pub returns-clause-transitive : goal.returns-clause-transitive
returns-clause-transitive c = together_trans
