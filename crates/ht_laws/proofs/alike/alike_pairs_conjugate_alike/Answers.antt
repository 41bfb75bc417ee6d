use Rattle.ht_pair.proofs.AlikeLaws.{alike_sym}
use Rattle.ht_laws.proofs.ConjugatorLaws.{conjugates_of_alike}
use Rattle.ht_laws.proofs.alike.alike_pairs_conjugate_alike.Goals as goal

pub returns : goal.returns
returns c = λ shape h g a c b d pair_h pair_g pair_a pair_c pair_b pair_d alike_h alike_a alike_b. (
  conjugates_of_alike shape h g a c b d pair_g pair_a pair_c pair_b alike_h alike_a alike_b,
  conjugates_of_alike shape g h c a d b pair_h pair_c pair_a pair_d (alike_sym shape h g alike_h) (alike_sym shape a c alike_a) (alike_sym shape b d alike_b),
)
