use Rattle.std.proofs.Common.{take}
use Rattle.ht_atoms.specs.Joins.{AreRowJoins}
use Rattle.ht_atoms.proofs.join.joins.Given as goal

abbrev pub invariant-loop-row : goal.invariant-loop-row
invariant-loop-row l = AreRowJoins l.t.element.shape l.t.element.rows l.t.quasi.basis.words (take l.row-index l.t.quasi.y) l.joins
