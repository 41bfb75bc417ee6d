use Rattle.ht_pair.specs.Kinds.{IsCycleWord}
use Rattle.ht_parts.specs.PartRows.{IsOther}
use Rattle.ht_parts.proofs.RowLaws.{one_more_part_row}
use Rattle.ht_parts.proofs.part.periodic_rows.Goals as goal

pub loop-place-preserved : goal.loop-place-preserved
loop-place-preserved c =
    one_more_part_row c.args.t.now.element.rows c.args.t.now.quasi.basis.words (IsCycleWord c.args.t.now.element.shape c.args.t.now.element.rows) (IsOther c.args.t.now.element.shape c.args.t.now.element.rows) c.args.t.now.quasi.basis.words
    c.loop-place.place c.loop-place.rows c.push.new.self c.in_ok-periodic_row.field-0 c.loop-place.invariant c.in_ok-periodic_row.ensures.0 c.in_ok-periodic_row.ensures.1 c.in_ok-push.ensures.ok
