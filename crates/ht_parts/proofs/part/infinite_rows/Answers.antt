use Rattle.ht_pair.specs.Kinds.{IsCycleWord}
use Rattle.ht_pair.specs.Pairs.{from_words}
use Rattle.ht_parts.specs.PartRows.{IsOther}
use Rattle.ht_parts.proofs.RowLaws.{one_more_part_row, row_read}
use Rattle.ht_parts.proofs.part.infinite_rows.Goals as goal

pub loop-row-preserved : goal.loop-row-preserved
loop-row-preserved c =
    let here = row_read c.loop-row.row-index c.row-item.result c.in_ok-infinite_row.field-0 c.as_slice-row-items.result.now c.quasi.result.now c.args.t.now.quasi c.loop-row-test.true c.row-item.is c.as_slice-row-items.ensures c.quasi.ensures.quasi
    c.in_ok-infinite_row.ensures.0 in
    one_more_part_row c.args.t.now.element.rows c.args.t.now.quasi.basis.words (IsOther c.args.t.now.element.shape c.args.t.now.element.rows) (IsCycleWord c.args.t.now.element.shape c.args.t.now.element.rows) (from_words c.args.t.now.quasi.y)
    c.loop-row.row-index c.loop-row.rows c.push.new.self c.in_ok-infinite_row.field-0 c.loop-row.invariant here c.in_ok-infinite_row.ensures.1 c.in_ok-push.ensures.ok
