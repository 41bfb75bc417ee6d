use Rattle.std.proofs.Common.{length}
use Rattle.ht_local.proofs.SlotLaws.{keeps_trans, popped}
use Rattle.ht_local.proofs.values.fill_way.Goals as goal

pub fill-requires-clause-at : goal.fill-requires-clause-at
fill-requires-clause-at c = (popped c.loop-at.way.items c.pop.new.self.items c.in-Some.at (length c.args.k.now) c.in-Some.ensures.items c.loop-at.invariant.way).0

pub loop-at-preserved : goal.loop-at-preserved
loop-at-preserved c = record {
  way = (popped c.loop-at.way.items c.pop.new.self.items c.in-Some.at (length c.args.k.now) c.in-Some.ensures.items c.loop-at.invariant.way).1;
  lists = c.in_ok-fill.ensures.lists;
  keeps = keeps_trans c.args.lists.now c.loop-at.lists c.fill.new.lists c.loop-at.invariant.keeps c.in_ok-fill.ensures.keeps;
}
