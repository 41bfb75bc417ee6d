use Rattle.std.proofs.Common.{get_or, arith}
use Rattle.ht_power.proofs.CyclePowers.{one_more_placed, word_copied}
use Rattle.std.proofs.lemmas.Option.{slice_get-get_or}
use Rattle.ht_power.proofs.cycles.placed_rows.Goals as goal

pub loop-place-preserved : goal.loop-place-preserved
loop-place-preserved c =
    let W = c.args.words.now in
    let places = c.args.places.now in
    let place = c.loop-place.place in
    let to = get_or places place 0 in
    let inside = c.loop-place-test.true in
    one_more_placed W places place to c.loop-place.rows c.push.new.self (record { from = c.in_ok-from.from; to = c.in_ok-to.to }) c.loop-place.invariant
    (word_copied W place c.index-words-place.result c.in_ok-from.from (omega (arith, inside, c.requires.many)) c.index-words-place.is c.in_ok-from.ensures) (slice_get-get_or places place 0 inside)
    (word_copied W to c.index-words-to.result c.in_ok-to.to (c.requires.inside place 0 inside) c.index-words-to.is c.in_ok-to.ensures) c.in_ok-push.ensures.ok
