use Rattle.ht_laws.proofs.CarriedLaws.{AreAlike, other_way}
use Rattle.ht_laws.proofs.ElementLaws.{normal_alike}
use Rattle.ht_laws.proofs.alike.alike_pairs_are_normal_conjugators_alike.Goals as goal

pub returns : goal.returns
returns c = λ shape h g a c b d pair_h pair_g pair_a pair_c pair_b pair_d alike_h alike_a alike_b.
    let by : AreAlike shape h g = record { first = pair_h; second = pair_g; alike = alike_h } in
    let first : AreAlike shape a c = record { first = pair_a; second = pair_c; alike = alike_a } in
    let second : AreAlike shape b d = record { first = pair_b; second = pair_d; alike = alike_b } in
    (normal_alike shape h g a c b d by first second, normal_alike shape g h c a d b (other_way shape h g by) (other_way shape a c first) (other_way shape b d second))
