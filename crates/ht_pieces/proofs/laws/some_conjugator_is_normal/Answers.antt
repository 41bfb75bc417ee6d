use Rattle.ht_pieces.proofs.NormalForms.{some_normal}
use Rattle.ht_pieces.proofs.laws.some_conjugator_is_normal.Goals as goal

pub returns : goal.returns
returns c = some_normal
