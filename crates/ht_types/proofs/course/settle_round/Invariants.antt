use Rattle.std.proofs.Common.{get_or}
use Rattle.ht_types.proofs.RoundLaws.{AreTold}
use Rattle.ht_types.proofs.course.settle_round.Given as goal

abbrev pub invariant-loop-i : goal.invariant-loop-i
invariant-loop-i l = AreTold l.steps l.path l.first (get_or l.path l.first 0) l.i l.fn.states l.states l.by
