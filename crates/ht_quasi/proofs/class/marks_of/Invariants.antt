use Rattle.std.proofs.Common.{take}
use Rattle.ht_pair.specs.Sides.{words_on}
use Rattle.ht_quasi.specs.Marks.{AreMarks}
use Rattle.ht_quasi.proofs.class.marks_of.Given as goal

abbrev pub invariant-loop-row : goal.invariant-loop-row
invariant-loop-row l = AreMarks (words_on l.side (take l.row-index l.rows)) l.basis.words l.marks.items
