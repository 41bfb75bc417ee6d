use Rattle.ht_local.proofs.SlotLaws.{keeps_trans}
use Rattle.ht_local.proofs.values.fill_all.Goals as goal

pub loop-index-preserved : goal.loop-index-preserved
loop-index-preserved c = record {
  lists = c.in_ok-fill_way.ensures.lists;
  keeps = keeps_trans c.args.lists.now c.loop-index.lists c.fill_way.new.lists c.loop-index.invariant.keeps c.in_ok-fill_way.ensures.keeps;
}
