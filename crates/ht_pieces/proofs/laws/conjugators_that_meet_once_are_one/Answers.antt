use Rattle.ht_pieces.proofs.Rigidity.{rigid}
use Rattle.ht_pieces.proofs.laws.conjugators_that_meet_once_are_one.Goals as goal

pub returns : goal.returns
returns c = rigid
