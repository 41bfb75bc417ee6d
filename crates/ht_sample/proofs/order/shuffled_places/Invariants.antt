use Rattle.std.proofs.Common.{◌≡◌, ◌<◌, length}
use Rattle.ht_sample.specs.Shuffles.{places_to, shuffled}
use Rattle.ht_sample.proofs.order.shuffled_places.Given as goal

abbrev pub invariant-loop-place : goal.invariant-loop-place
invariant-loop-place l = record {
  within : l.place < length l.order.items;
  left : shuffled l.place l.draws.state l.order.items ≡ shuffled 3999 l.initial.draws.state (places_to 4000);
}

abbrev pub decreases-loop-place : goal.decreases-loop-place
decreases-loop-place l = l.place
