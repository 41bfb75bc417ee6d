use Rattle.ht_local.specs.PlacedLists.{AreSlotsAt, KeepsLists}
use Rattle.ht_local.proofs.values.fill_all.Given as goal

abbrev pub invariant-loop-index : goal.invariant-loop-index
invariant-loop-index l = record { lists : AreSlotsAt l.f l.k l.g l.known l.lists; keeps : KeepsLists l.fn.lists l.lists }
