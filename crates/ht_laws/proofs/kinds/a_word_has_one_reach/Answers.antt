use Rattle.ht_laws.proofs.ReachLaws.{ahead_once, behind_once}
use Rattle.ht_laws.proofs.kinds.a_word_has_one_reach.Goals as goal

pub returns-clause-ahead : goal.returns-clause-ahead
returns-clause-ahead c = ahead_once

pub returns-clause-behind : goal.returns-clause-behind
returns-clause-behind c = behind_once
