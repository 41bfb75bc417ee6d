use Rattle.std.proofs.Common.{ℕ, ◌<◌, ◌≤◌, List, length}
use Rattle.ht_local.specs.Borders.{HoldsFront}
use Rattle.ht_local.proofs.BorderLaws.{ShortensTo}
use Rattle.ht_local.proofs.borders.advanced.Given as goal

abbrev pub invariant-shortening : goal.invariant-shortening
invariant-shortening l = (l.held ≤ l.before) × ((z : List ℕ) (most : ℕ) → most < length l.by → HoldsFront l.by z most l.before → ShortensTo l.by z l.letter most l.held)

abbrev pub decreases-shortening : goal.decreases-shortening
decreases-shortening l = l.held
