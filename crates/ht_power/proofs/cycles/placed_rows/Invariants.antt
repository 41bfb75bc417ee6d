use Rattle.ht_power.proofs.CyclePowers.{ArePlacedTo}
use Rattle.ht_power.proofs.cycles.placed_rows.Given as goal

abbrev pub invariant-loop-place : goal.invariant-loop-place
invariant-loop-place l = ArePlacedTo l.words l.places l.place l.rows
