use Rattle.std.proofs.Common.{◌≡◌, take}
use Rattle.ht_counterparts.specs.Ends.{ends_at}
use Rattle.ht_conj.proofs.ends.ends_of.Given as goal

abbrev pub invariant-loop-place : goal.invariant-loop-place
invariant-loop-place l = l.ends.items ≡ ends_at l.t.kinds (take l.place-index l.places)
