use Rattle.ht_conj.specs.LinkedAtoms.{AreDealt}
use Rattle.ht_conj.proofs.linked.deal.Given as goal

abbrev pub invariant-loop-link : goal.invariant-loop-link
invariant-loop-link l = AreDealt l.t l.yielded l.fn.atoms l.atoms
