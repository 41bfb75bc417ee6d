use Rattle.ht_sample.proofs.SmallPairLaws.{only_memory}
use Rattle.ht_sample.proofs.elements.element.Goals as goal

pub want_of_memory-requires : goal.want_of_memory-requires
want_of_memory-requires c = only_memory c.args.shape c.args.rows c.in-Err.fault c.requires c.in-Err.ensures.fault
