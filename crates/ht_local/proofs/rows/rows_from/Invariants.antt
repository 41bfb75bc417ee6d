use Rattle.std.proofs.Common.{◌≡◌, take}
use Rattle.ht_local.specs.PlacedLists.{rows_at}
use Rattle.ht_local.proofs.rows.rows_from.Given as goal

abbrev pub invariant-loop-index : goal.invariant-loop-index
invariant-loop-index l = l.rows ≡ rows_at l.f.quasi.basis.words (take l.index l.k) (take l.index l.lists)
