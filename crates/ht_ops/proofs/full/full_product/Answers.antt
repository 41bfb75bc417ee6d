use Rattle.std.proofs.lemmas.Result.{IfOk-weaker}
use Rattle.ht_ops.specs.Blocks.{AreBlocks, IsFullProduct}
use Rattle.ht_pair.proofs.Canonical.{pair_table}
use Rattle.ht_ops.proofs.BlockLaws.{blocks_full}
use Rattle.ht_ops.proofs.full.full_product.Goals as goal

pub blocks_of-requires-clause-table : goal.blocks_of-requires-clause-table
blocks_of-requires-clause-table c = pair_table c.args.shape c.args.rows.now c.requires.first c.requires.ascending

pub returns : goal.returns
returns c =
    IfOk-weaker c.blocks_of.result (AreBlocks c.args.shape c.args.others.now c.args.rows.now) (IsFullProduct c.args.shape c.args.rows.now c.args.others.now)
    (λ rows h. blocks_full c.args.shape c.args.rows.now c.args.others.now rows c.requires.first c.requires.second h) c.blocks_of.ensures
