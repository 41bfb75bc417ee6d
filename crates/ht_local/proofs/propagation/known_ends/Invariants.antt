use Rattle.ht_local.specs.Propagations.{unknown}
use Rattle.ht_local.proofs.PropagationLaws.{AreFoundFrom}
use Rattle.ht_local.proofs.propagation.known_ends.Given as goal

abbrev pub invariant-passing : goal.invariant-passing
invariant-passing o l = AreFoundFrom l.f l.g l.k l.start l.fn.first l.known.items

abbrev pub decreases-passing : goal.decreases-passing
decreases-passing o l = unknown l.known.items
