use Rattle.ht_types.proofs.ShareLaws.{share_once}
use Rattle.ht_types.proofs.laws.an_infinite_word_is_shared_once.Goals as goal

pub returns : goal.returns
returns c = share_once
