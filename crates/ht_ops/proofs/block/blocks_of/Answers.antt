use Rattle.std.proofs.Common.{◌≡◌, ◌+◌, List, ◌∷◌, drop, subst}
use Rattle.ht_pair.specs.declared.row.Row.{Row}
use Rattle.ht_ops.proofs.BlockLaws.{AreBlocksUpTo, next_row, one_more_block}
use Rattle.ht_ops.proofs.block.blocks_of.Goals as goal

pub loop-row-preserved : goal.loop-row-preserved
loop-row-preserved c =
    let p : List Row = c.args.rows.now in
    let place = c.loop-row.row-index in
    let next : drop place p ≡ c.row-item.result ∷ drop (place + 1) p = next_row p place c.row-item.result c.loop-row-test.true c.row-item.is in
    one_more_block c.args.shape p c.args.others.now c.loop-row.blocks (drop (place + 1) p) c.add_block.new.rows c.row-item.result c.requires.table c.requires.basis c.requires.ascending
    (subst (AreBlocksUpTo c.args.shape p c.args.others.now c.loop-row.blocks) next c.loop-row.invariant) c.in_ok-add_block.ensures
