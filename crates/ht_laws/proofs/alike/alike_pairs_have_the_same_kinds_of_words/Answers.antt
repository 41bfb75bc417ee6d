use Rattle.ht_pair.specs.Kinds.{IsCycle, IsAttractor, IsRepeller, IsPassing}
use Rattle.ht_laws.proofs.CarriedLaws.{same_of_alike, cycle_alike, attractor_alike, repeller_alike, passing_alike}
use Rattle.ht_laws.proofs.alike.alike_pairs_have_the_same_kinds_of_words.Goals as goal

pub returns-clause-cycle : goal.returns-clause-cycle
returns-clause-cycle c = λ shape p q pair_p pair_q alike x m. same_of_alike shape (λ p. IsCycle shape p x m) (λ p q pairs. cycle_alike shape p q pairs x m) p q pair_p pair_q alike

pub returns-clause-attractor : goal.returns-clause-attractor
returns-clause-attractor c = λ shape p q pair_p pair_q alike x m z. same_of_alike shape (λ p. IsAttractor shape p x m z) (λ p q pairs. attractor_alike shape p q pairs x m z) p q pair_p pair_q alike

pub returns-clause-repeller : goal.returns-clause-repeller
returns-clause-repeller c = λ shape p q pair_p pair_q alike x m z. same_of_alike shape (λ p. IsRepeller shape p x m z) (λ p q pairs. repeller_alike shape p q pairs x m z) p q pair_p pair_q alike

pub returns-clause-passing : goal.returns-clause-passing
returns-clause-passing c = λ shape p q pair_p pair_q alike x. same_of_alike shape (λ p. IsPassing shape p x) (λ p q pairs. passing_alike shape p q pairs x) p q pair_p pair_q alike
