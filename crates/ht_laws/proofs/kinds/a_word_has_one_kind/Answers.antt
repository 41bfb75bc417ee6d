use Rattle.ht_num.proofs.NumberLaws.{once_least}
use Rattle.ht_pair.proofs.KindLaws.{attractor_once, repeller_once, cycle_no_attractor, cycle_no_repeller, attractor_no_repeller}
use Rattle.ht_laws.proofs.kinds.a_word_has_one_kind.Goals as goal

pub returns-clause-cycle : goal.returns-clause-cycle
returns-clause-cycle c = λ shape p x m k. once_least m k

pub returns-clause-attractor : goal.returns-clause-attractor
returns-clause-attractor c = attractor_once

pub returns-clause-repeller : goal.returns-clause-repeller
returns-clause-repeller c = repeller_once

pub returns-clause-cycle_no_attractor : goal.returns-clause-cycle_no_attractor
returns-clause-cycle_no_attractor c = cycle_no_attractor

pub returns-clause-cycle_no_repeller : goal.returns-clause-cycle_no_repeller
returns-clause-cycle_no_repeller c = cycle_no_repeller

pub returns-clause-attractor_no_repeller : goal.returns-clause-attractor_no_repeller
returns-clause-attractor_no_repeller c = attractor_no_repeller
