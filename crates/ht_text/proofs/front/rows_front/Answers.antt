use Rattle.std.proofs.Common.{arith}
use Rattle.ht_text.specs.Fronts.{IsRowsText}
use Rattle.ht_text.specs.Places.{FollowsRows}
use Rattle.ht_text.proofs.FrontLaws.{stops_at, stops_at_end}
use Rattle.ht_text.proofs.PlaceLaws.{rows_completion}
use Rattle.ht_text.proofs.RowFronts.{rows_begin}
use Rattle.ht_text.proofs.front.rows_front.Goals as goal

pub loop-i-init : goal.loop-i-init
loop-i-init c = record { same = rows_begin }

pub returns-in_default : goal.returns-in_default
returns-in_default c =
    let whole = rows_completion c.loop-i.spot in
    stops_at IsRowsText (FollowsRows c.loop-i.spot) c.args.bytes.now c.loop-i.i (omega arith) c.loop-i.invariant c.in_default.ensures whole.0 whole.1

pub returns : goal.returns
returns c =
    let whole = rows_completion c.loop-i.spot in
    stops_at_end IsRowsText (FollowsRows c.loop-i.spot) c.args.bytes.now c.loop-i.i (omega arith) c.loop-i.invariant whole.0 whole.1
