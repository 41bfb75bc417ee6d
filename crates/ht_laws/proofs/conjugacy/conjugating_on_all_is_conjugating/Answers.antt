use Rattle.ht_pair.specs.Bases.{roots}
use Rattle.ht_pair.proofs.BasisLaws.{roots_basis}
use Rattle.ht_pair.proofs.LocalConjugacyLaws.{conjugates_whole}
use Rattle.ht_laws.proofs.conjugacy.conjugating_on_all_is_conjugating.Goals as goal

pub returns : goal.returns
returns c = λ shape. conjugates_whole shape (roots shape) (roots shape) (roots_basis shape) (roots_basis shape)
