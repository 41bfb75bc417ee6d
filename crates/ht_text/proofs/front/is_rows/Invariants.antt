use Rattle.std.proofs.Common.{take}
use Rattle.ht_text.specs.Fronts.{IsRowsText}
use Rattle.ht_text.specs.Places.{FollowsRows}
use Rattle.ht_text.proofs.FrontLaws.{Continues}
use Rattle.ht_text.proofs.front.is_rows.Given as goal

abbrev pub invariant-loop-b : goal.invariant-loop-b
invariant-loop-b l = Continues IsRowsText (FollowsRows l.spot) (take l.b-index l.bytes)
