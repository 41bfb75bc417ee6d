use Rattle.ht_quasi.proofs.YLaws.{to_basis, to_carried, turned_y}
use Rattle.ht_quasi.proofs.laws.an_inverse_turns_y.Goals as goal

pub returns-clause-rows : goal.returns-clause-rows
returns-clause-rows c = turned_y

pub returns-clause-basis : goal.returns-clause-basis
returns-clause-basis c = to_basis

pub returns-clause-carried : goal.returns-clause-carried
returns-clause-carried c = to_carried
