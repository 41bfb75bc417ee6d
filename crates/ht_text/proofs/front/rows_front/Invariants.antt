use Rattle.std.proofs.Common.{take}
use Rattle.ht_text.specs.Fronts.{IsRowsText}
use Rattle.ht_text.specs.Places.{FollowsRows}
use Rattle.ht_text.proofs.FrontLaws.{Continues}
use Rattle.ht_text.proofs.front.rows_front.Given as goal

abbrev pub invariant-loop-i : goal.invariant-loop-i
invariant-loop-i l = Continues IsRowsText (FollowsRows l.spot) (take l.i l.bytes)
