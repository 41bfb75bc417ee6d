use Rattle.ht_pair.specs.Parts.{IsPeriodicPart, IsInfinitePart}
use Rattle.ht_pair.specs.Profiles.{IsProfile}
use Rattle.ht_laws.proofs.CarriedLaws.{AreAlike, other_way, same_of_alike, periodic_alike, infinite_alike, profile_alike}
use Rattle.ht_laws.proofs.ElementLaws.{parts_alike}
use Rattle.ht_laws.proofs.alike.alike_pairs_have_the_same_parts.Goals as goal

pub returns-clause-periodic : goal.returns-clause-periodic
returns-clause-periodic c = λ shape p q pair_p pair_q alike X W. same_of_alike shape (λ p. IsPeriodicPart shape p X W) (λ p q pairs. periodic_alike shape p q pairs X W) p q pair_p pair_q alike

pub returns-clause-infinite : goal.returns-clause-infinite
returns-clause-infinite c = λ shape p q pair_p pair_q alike X W. same_of_alike shape (λ p. IsInfinitePart shape p X W) (λ p q pairs. infinite_alike shape p q pairs X W) p q pair_p pair_q alike

pub returns-clause-parts : goal.returns-clause-parts
returns-clause-parts c = λ shape p q s t first second pair_p pair_q pair_s pair_t pair_first pair_second alike same_first same_second X.
    let pairs : AreAlike shape p q = record { first = pair_p; second = pair_q; alike = alike } in
    let periodic : AreAlike shape s first = record { first = pair_s; second = pair_first; alike = same_first } in
    let infinite : AreAlike shape t second = record { first = pair_t; second = pair_second; alike = same_second } in
    (parts_alike shape p q s t first second pairs periodic infinite X, parts_alike shape q p first second s t (other_way shape p q pairs) (other_way shape s first periodic) (other_way shape t second infinite) X)

pub returns-clause-profile : goal.returns-clause-profile
returns-clause-profile c = λ shape p q pair_p pair_q alike X profile. same_of_alike shape (λ p. IsProfile shape p X profile) (λ p q pairs. profile_alike shape p q pairs X profile) p q pair_p pair_q alike
