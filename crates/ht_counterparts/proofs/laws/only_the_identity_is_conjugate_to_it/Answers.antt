use Rattle.ht_counterparts.proofs.ConjugateElements.{identity_across}
use Rattle.ht_counterparts.proofs.laws.only_the_identity_is_conjugate_to_it.Goals as goal

pub returns : goal.returns
returns c = λ shape f g pair_f pair_g a. identity_across pair_f pair_g a.conjugates
