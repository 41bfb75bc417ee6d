use Rattle.std.proofs.Common.{◌<◌, ℕ}
use Rattle.ht_pair.specs.declared.row.Row.{Row}
use Rattle.ht_local.specs.PlacedLists.{AgreesAlong, IsStepBelow, rows_at}
use Rattle.ht_local.proofs.tests.commute.Given as goal

abbrev pub invariant-loop-index : goal.invariant-loop-index
invariant-loop-index l = (i : ℕ) → i < l.index → (row : Row) → IsStepBelow l.f l.k i row → AgreesAlong l.f.element.shape (rows_at l.f.quasi.basis.words l.k l.lists) l.g.element.rows row
