use Rattle.std.proofs.Common.{length}
use Rattle.ht_script.proofs.front.+slots_front.Given as goal

abbrev pub decreases-slots_front : goal.decreases-slots_front
decreases-slots_front l = length l.slots.now
