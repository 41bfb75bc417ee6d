use Rattle.ht_local.proofs.FrontLaws.{difference_is}
use Rattle.ht_local.proofs.front.difference.Goals as goal

pub returns-clause-apart : goal.returns-clause-apart
returns-clause-apart c = difference_is c.args.count c.args.i c.args.j
