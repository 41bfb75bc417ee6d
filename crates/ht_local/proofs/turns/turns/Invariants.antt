use Rattle.std.proofs.Common.{◌++◌, length, take}
use Rattle.ht_local.specs.Borders.{HoldsFront}
use Rattle.ht_local.proofs.TurnedPlaces.{AreTurnedBefore}
use Rattle.ht_local.proofs.turns.turns.Given as goal

abbrev pub invariant-loop-place : goal.invariant-loop-place
invariant-loop-place l = AreTurnedBefore l.letters l.by l.place l.places.items × HoldsFront l.by (l.letters ++ take l.place l.letters) (length l.by) l.held
