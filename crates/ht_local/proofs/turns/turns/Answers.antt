use Rattle.std.proofs.Common.{arith}
use Rattle.ht_local.proofs.TurnedPlaces.{all_turned, held_more, held_turned, no_more_place, one_more_place}
use Rattle.ht_local.proofs.turns.turns.Goals as goal
use Rattle.ht_local.proofs.turns.turns.Goals.{then-held-by+in_ok-push, else-held-by}

pub loop-place-preserved : goal.loop-place-preserved
loop-place-preserved c =
    let letters = c.args.letters.now in
    let by = c.args.by.now in
    let place = c.loop-place.place in
    let places = c.loop-place.places.items in
    let within = c.loop-place-test.true in
    let turned = held_turned letters by place c.loop-place.held c.if-letters-by.false (omega arith) c.loop-place.invariant.1 in (
      elim c.if-held-by.branch [
        | then-held-by+in_ok-push w ↦ rw (w.places-is, w.in_ok-push.ensures.items) (one_more_place letters by place places (omega arith) (turned.0 w.if-held-by.true) c.loop-place.invariant.0)
        | else-held-by w ↦ rw w.places-is (no_more_place letters by place places (λ e. w.if-held-by.false (turned.1 e)) c.loop-place.invariant.0)
      ],
      held_more letters by place c.next_held-held.result (omega arith) (c.next_held-held.ensures.holds _ c.loop-place.invariant.1),
    )

pub returns : goal.returns
returns c = all_turned c.args.letters.now c.args.by.now c.loop-place.place c.loop-place.places.items (let far = c.loop-place-test.false in omega arith) c.loop-place.invariant.0
