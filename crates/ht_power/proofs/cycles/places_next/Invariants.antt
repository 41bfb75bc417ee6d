use Rattle.ht_power.specs.CyclePowers.{AreLed}
use Rattle.ht_power.proofs.cycles.places_next.Given as goal

abbrev pub invariant-loop-place : goal.invariant-loop-place
invariant-loop-place l = AreLed l.t.element.shape l.t.element.rows l.t.quasi.basis.words 1 l.place l.places.items
