use Rattle.std.proofs.Common.{take}
use Rattle.ht_pair.specs.Kinds.{IsCycleWord}
use Rattle.ht_pair.specs.Pairs.{from_words}
use Rattle.ht_parts.specs.PartRows.{IsOther, ArePartRows}
use Rattle.ht_parts.proofs.part.infinite_rows.Given as goal

abbrev pub invariant-loop-row : goal.invariant-loop-row
invariant-loop-row l =
    ArePartRows l.t.element.rows l.t.quasi.basis.words (IsOther l.t.element.shape l.t.element.rows) (IsCycleWord l.t.element.shape l.t.element.rows) (take l.row-index (from_words l.t.quasi.y)) l.rows
