use Rattle.ht_pair.proofs.ConjugacyLaws.{conjugates_turned}
use Rattle.ht_laws.proofs.ConjugatorLaws.{conjugators_multiply}
use Rattle.ht_laws.proofs.conjugacy.conjugators_turn_and_multiply.Goals as goal

pub returns-clause-inverse : goal.returns-clause-inverse
returns-clause-inverse c = conjugates_turned

pub returns-clause-product : goal.returns-clause-product
returns-clause-product c = conjugators_multiply
