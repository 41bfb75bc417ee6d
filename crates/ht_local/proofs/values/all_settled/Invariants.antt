use Rattle.ht_local.proofs.SlotLaws.{AreSettled}
use Rattle.ht_local.proofs.values.all_settled.Given as goal

abbrev pub invariant-loop-slot : goal.invariant-loop-slot
invariant-loop-slot l = AreSettled l.f l.k l.g l.known l.yielded l.lists
