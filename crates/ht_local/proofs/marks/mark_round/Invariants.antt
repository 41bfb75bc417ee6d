use Rattle.ht_local.proofs.MarkedRounds.{AreOnRound}
use Rattle.ht_local.proofs.marks.mark_round.Given as goal

abbrev pub invariant-loop-step : goal.invariant-loop-step
invariant-loop-step l = AreOnRound l.g l.l l.start l.fn.marks l.marks l.place
