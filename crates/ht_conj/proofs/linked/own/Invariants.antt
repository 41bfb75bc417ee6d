use Rattle.ht_conj.proofs.OwnerLaws.{IsOwning}
use Rattle.ht_conj.proofs.linked.own.Given as goal

abbrev pub invariant-loop-place : goal.invariant-loop-place
invariant-loop-place l = IsOwning l.places l.index l.fn.owners l.place-index l.owners
