use Rattle.ht_conj.specs.LinkedAtoms.{ArePrepared}
use Rattle.ht_conj.proofs.linked.without_links.Given as goal

abbrev pub invariant-loop-places : goal.invariant-loop-places
invariant-loop-places l = ArePrepared l.t l.yielded l.linked.items
