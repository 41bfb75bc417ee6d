use Rattle.ht_pair.proofs.AlikeLaws.{alike_refl, alike_sym, alike_trans}
use Rattle.ht_laws.proofs.pairs.alike_is_an_equivalence.Goals as goal

pub returns-clause-reflexive : goal.returns-clause-reflexive
returns-clause-reflexive c = alike_refl

pub returns-clause-symmetric : goal.returns-clause-symmetric
returns-clause-symmetric c = alike_sym

pub returns-clause-transitive : goal.returns-clause-transitive
returns-clause-transitive c = alike_trans
