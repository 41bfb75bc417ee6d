use Rattle.ht_pair.specs.Images.{IsImage}
use Rattle.ht_pair.specs.ValueLists.{IsFollowed}
use Rattle.ht_laws.proofs.CarriedLaws.{AreAlike, other_way, same_of_alike, image_alike}
use Rattle.ht_laws.proofs.ElementLaws.{powers_alike, followed_alike}
use Rattle.ht_laws.proofs.alike.alike_pairs_have_the_same_powers.Goals as goal

pub returns-clause-power : goal.returns-clause-power
returns-clause-power c = λ shape p q s t pair_p pair_q pair_s pair_t alike same k.
    let pairs : AreAlike shape p q = record { first = pair_p; second = pair_q; alike = alike } in
    let powers : AreAlike shape s t = record { first = pair_s; second = pair_t; alike = same } in
    (powers_alike shape p q s t pairs powers k, powers_alike shape q p t s (other_way shape p q pairs) (other_way shape s t powers) k)

pub returns-clause-image : goal.returns-clause-image
returns-clause-image c = λ shape p q pair_p pair_q alike k u L. same_of_alike shape (λ p. IsImage shape p k u L) (λ p q pairs. image_alike shape p q pairs k u L) p q pair_p pair_q alike

pub returns-clause-followed : goal.returns-clause-followed
returns-clause-followed c = λ shape p q pair_p pair_q alike k L M value. same_of_alike shape (λ p. IsFollowed shape L p k M) (λ p q pairs. followed_alike shape p q pairs k L M value) p q pair_p pair_q alike
