use Rattle.std.proofs.Common.{◌<◌, ℕ, length, All, vec_len}
use Rattle.ht_local.specs.PlacedLists.{AreSlotsAt, KeepsLists}
use Rattle.ht_local.proofs.values.fill_way.Given as goal

abbrev pub invariant-loop-at : goal.invariant-loop-at
invariant-loop-at l = record { way : All (λ (i : ℕ). i < length l.k) l.way.items; lists : AreSlotsAt l.f l.k l.g l.known l.lists; keeps : KeepsLists l.fn.lists l.lists }

abbrev pub decreases-loop-at : goal.decreases-loop-at
decreases-loop-at l = vec_len l.way
