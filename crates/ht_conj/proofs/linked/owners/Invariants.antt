use Rattle.std.proofs.Common.{◌≡◌, length}
use Rattle.ht_conj.proofs.OwnerLaws.{AreOwnersBelow}
use Rattle.ht_conj.proofs.linked.owners.Given as goal

abbrev pub invariant-loop-index : goal.invariant-loop-index
invariant-loop-index l = (length l.owners.items ≡ length l.t.quasi.basis.words) × AreOwnersBelow l.atoms l.index l.owners.items
