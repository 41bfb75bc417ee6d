use Rattle.std.proofs.Common.{take}
use Rattle.ht_pair.specs.Kinds.{IsCycleWord}
use Rattle.ht_parts.specs.PartRows.{IsOther, ArePartRows}
use Rattle.ht_parts.proofs.part.periodic_rows.Given as goal

abbrev pub invariant-loop-place : goal.invariant-loop-place
invariant-loop-place l =
    ArePartRows l.t.element.rows l.t.quasi.basis.words (IsCycleWord l.t.element.shape l.t.element.rows) (IsOther l.t.element.shape l.t.element.rows) (take l.place l.t.quasi.basis.words) l.rows
