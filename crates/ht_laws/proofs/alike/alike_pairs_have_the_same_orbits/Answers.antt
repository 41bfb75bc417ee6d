use Rattle.ht_pair.specs.Orbits.{ShareOrbit, IsPond}
use Rattle.ht_pair.specs.Addresses.{IsAddress}
use Rattle.ht_pair.specs.Atoms.{IsAtom}
use Rattle.ht_laws.proofs.CarriedLaws.{carries_there, same_of_alike, pond_alike, address_alike, atom_alike}
use Rattle.ht_laws.proofs.alike.alike_pairs_have_the_same_orbits.Goals as goal

pub returns-clause-orbit : goal.returns-clause-orbit
returns-clause-orbit c = λ shape p q pair_p pair_q alike u v k. same_of_alike shape (λ p. ShareOrbit shape p u v k) (λ p q pairs. carries_there shape p q pairs k u v) p q pair_p pair_q alike

pub returns-clause-pond : goal.returns-clause-pond
returns-clause-pond c = λ shape p q pair_p pair_q alike X u v k. same_of_alike shape (λ p. IsPond shape p X u k v) (λ p q pairs. pond_alike shape p q pairs X u v k) p q pair_p pair_q alike

pub returns-clause-address : goal.returns-clause-address
returns-clause-address c = λ shape p q pair_p pair_q alike X u x z k. same_of_alike shape (λ p. IsAddress shape p X u x z k) (λ p q pairs. address_alike shape p q pairs X u x z k) p q pair_p pair_q alike

pub returns-clause-atom : goal.returns-clause-atom
returns-clause-atom c = λ shape p q pair_p pair_q alike X places. same_of_alike shape (λ p. IsAtom shape p X places) (λ p q pairs. atom_alike shape p q pairs X places) p q pair_p pair_q alike
