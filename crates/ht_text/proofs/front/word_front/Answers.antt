use Rattle.std.proofs.Common.{arith}
use Rattle.ht_text.specs.Fronts.{IsWordText}
use Rattle.ht_text.specs.Places.{CompletesWord}
use Rattle.ht_text.proofs.FrontLaws.{stops_at, stops_at_end}
use Rattle.ht_text.proofs.PlaceLaws.{word_completion}
use Rattle.ht_text.proofs.WordFronts.{word_marked}
use Rattle.ht_text.proofs.front.word_front.Goals as goal

pub loop-i-init : goal.loop-i-init
loop-i-init c = record { same = word_marked }

pub returns-in_default : goal.returns-in_default
returns-in_default c =
    let whole = word_completion c.loop-i.place in
    stops_at IsWordText (CompletesWord c.loop-i.place) c.args.bytes.now c.loop-i.i (omega arith) c.loop-i.invariant c.in_default.ensures whole.0 whole.1

pub returns : goal.returns
returns c =
    let whole = word_completion c.loop-i.place in
    stops_at_end IsWordText (CompletesWord c.loop-i.place) c.args.bytes.now c.loop-i.i (omega arith) c.loop-i.invariant whole.0 whole.1
