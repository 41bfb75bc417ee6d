use Rattle.std.proofs.Common.{take, All}
use Rattle.ht_pair.specs.declared.row.Row.{Row}
use Rattle.ht_local.specs.PlacedLists.{AgreesAlong, rows_at}
use Rattle.ht_local.proofs.tests.agrees_below.Given as goal

abbrev pub invariant-loop-row : goal.invariant-loop-row
invariant-loop-row l = All (λ (row : Row). AgreesAlong l.f.element.shape (rows_at l.f.quasi.basis.words l.k l.lists) l.g.element.rows row) (take l.row-index l.row-items)
