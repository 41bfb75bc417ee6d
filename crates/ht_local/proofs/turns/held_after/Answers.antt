use Rattle.ht_local.proofs.BorderLaws.{none_held}
use Rattle.ht_local.proofs.turns.held_after.Goals as goal

pub loop-letter-init : goal.loop-letter-init
loop-letter-init c = none_held c.args.by.now
