use Rattle.ht_pair.proofs.ValueListLaws.{cone_value}
use Rattle.ht_call_tests.proofs.images.cone_in.Goals as goal

pub returns : goal.returns
returns g c = rw c.in_ok-cone.ensures (cone_value c.args.shape c.in_ok-word.word c.in_ok-word.ensures)
