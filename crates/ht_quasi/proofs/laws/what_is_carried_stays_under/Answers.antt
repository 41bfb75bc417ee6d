use Rattle.ht_quasi.proofs.CarriedLaws.{carried_under, carried_back_under}
use Rattle.ht_quasi.proofs.laws.what_is_carried_stays_under.Goals as goal

pub returns-clause-ahead : goal.returns-clause-ahead
returns-clause-ahead c = carried_under

pub returns-clause-behind : goal.returns-clause-behind
returns-clause-behind c = carried_back_under
