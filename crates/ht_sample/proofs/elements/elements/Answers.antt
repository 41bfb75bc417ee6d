use Rattle.ht_sample.proofs.BetweenLaws.{between_pair}
use Rattle.ht_sample.proofs.GroupLaws.{groups_pair}
use Rattle.ht_sample.proofs.elements.elements.Goals as goal

pub element-requires : goal.element-requires
element-requires c = rw c.in_ok-rows_of_groups.ensures (groups_pair c.args.shape c.requires.letters c.args.words.now c.requires.words)

pub element-requires-2 : goal.element-requires-2
element-requires-2 c = rw c.in_ok-rows_from_to.ensures (between_pair c.args.shape c.args.words.now c.args.images.now c.requires.words c.requires.images)

pub element-requires-3 : goal.element-requires-3
element-requires-3 c = rw c.in_ok-rows_of_groups-2.ensures (groups_pair c.args.shape c.requires.letters c.args.images.now c.requires.images)
