use Rattle.ht_local.proofs.LinksInside.{AreCrossingsTo}
use Rattle.ht_local.proofs.crossing.crossings.Given as goal

abbrev pub invariant-links : goal.invariant-links
invariant-links l = AreCrossingsTo l.f l.k l.links l.place l.found
