use Rattle.std.proofs.Common.{◌≡◌, ◌-◌, length, take}
use Rattle.ht_local.specs.Borders.{AreBorders, HoldsFront}
use Rattle.ht_local.proofs.borders.borders.Given as goal

abbrev pub invariant-loop-count : goal.invariant-loop-count
invariant-loop-count l = (length l.table.items ≡ l.count) × AreBorders l.by l.table.items l.count × HoldsFront l.by (take l.count l.by) (l.count - 1) l.held
