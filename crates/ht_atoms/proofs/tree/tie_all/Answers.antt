use Rattle.std.proofs.Common.{length}
use Rattle.ht_atoms.proofs.TreeLaws.{own_trees, one_more_join, all_joins, labels_are}
use Rattle.ht_atoms.proofs.tree.tie_all.Goals as goal

pub loop-join-init : goal.loop-join-init
loop-join-init c = own_trees c.args.parents.now c.requires.own

pub loop-join-preserved : goal.loop-join-preserved
loop-join-preserved c = one_more_join c.args.joins.now c.loop-join.join-index _ c.tie.new.parents c.loop-join-test.true (c.tie.ensures _ c.loop-join.invariant)

pub returns : goal.returns
returns c = labels_are c.args.joins.now (length c.args.parents.now) c.loop-join.parents c.settle.new.parents c.loop-join.auto.parents (all_joins c.args.joins.now c.loop-join.join-index c.loop-join.parents c.loop-join-test.false c.loop-join.invariant) c.settle.ensures.shortened c.settle.ensures.settled
