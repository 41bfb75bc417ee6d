use Rattle.std.proofs.Common.{◌≡◌, ◌++◌, map, take}
use Rattle.ht_local.proofs.CandidateLaws.{front_at}
use Rattle.ht_local.proofs.candidates.add_fronts.Given as goal

abbrev pub invariant-loop-front : goal.invariant-loop-front
invariant-loop-front l = l.found ≡ l.fn.found ++ map (front_at l.place) (take l.front-index l.fronts)
