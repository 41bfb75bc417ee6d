use Rattle.ht_pair.proofs.SemiNormalLaws.{semi_normal_meet}
use Rattle.ht_laws.proofs.kinds.semi_normal_bases_meet.Goals as goal

pub returns : goal.returns
returns c = semi_normal_meet
