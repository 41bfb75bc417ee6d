use Rattle.std.proofs.Common.{◌≡◌, map, take, slice_index}
use Rattle.ht_power.proofs.cycles.followed.Given as goal

abbrev pub invariant-loop-place : goal.invariant-loop-place
invariant-loop-place l = l.places.items ≡ map (λ place. slice_index l.second place) (take l.place-index l.first)
