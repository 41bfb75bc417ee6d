use Rattle.ht_quasi.proofs.KeptLaws.{ArePlacesSoFar}
use Rattle.ht_quasi.proofs.kept.places_after.Given as goal

abbrev pub invariant-loop-mark : goal.invariant-loop-mark
invariant-loop-mark l = ArePlacesSoFar l.shape.n l.marks l.places.items l.next l.mark-index
