use Rattle.std.proofs.Common.{take}
use Rattle.ht_pair.specs.Sides.{words_on}
use Rattle.ht_quasi.proofs.MarkLaws.{marks_more}
use Rattle.ht_quasi.proofs.class.marks_of.Goals as goal

pub loop-row-preserved : goal.loop-row-preserved
loop-row-preserved c =
    marks_more c.args.side c.args.rows.now c.loop-row.row-index c.row-item.result c.word.result.now c.args.basis.now.words c.mark.new.marks.items c.loop-row-test.true c.row-item.is c.word.ensures
    (c.mark.ensures (words_on c.args.side (take c.loop-row.row-index c.args.rows.now)) c.loop-row.invariant)
