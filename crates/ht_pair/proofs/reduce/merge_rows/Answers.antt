use Rattle.std.proofs.lemmas.Result.{IfOk-weaker}
use Rattle.ht_pair.specs.Merges.{IsReducedOf}
use Rattle.ht_pair.specs.Tables.{IsMergedTable}
use Rattle.ht_pair.proofs.Canonical.{pair_table, merged_pair}
use Rattle.ht_pair.proofs.reduce.merge_rows.Goals as goal

pub merge_table-requires : goal.merge_table-requires
merge_table-requires c = pair_table c.args.shape c.args.rows c.requires.pair c.requires.ascending

pub returns : goal.returns
returns c =
    IfOk-weaker c.merge_table.result (IsMergedTable c.args.shape c.args.rows) (IsReducedOf c.args.shape c.args.rows) (λ q h. merged_pair c.args.shape c.args.rows q c.requires.pair h) c.merge_table.ensures
