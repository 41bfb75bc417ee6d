use Rattle.std.proofs.Common.{false, get_or, refl, arith}
use Rattle.ht_quasi.proofs.KeptLaws.{entry_at, from_few, place_bound, no_places, one_more_place, all_places}
use Rattle.ht_quasi.proofs.kept.places_after.Goals as goal

pub overflow_add-next : goal.overflow_add-next
overflow_add-next c =
    let marks = c.args.marks.now in
    omega (
      arith,
      c.loop-mark.invariant.next_is,
      c.words_from-next.ensures,
      place_bound c.args.shape.n marks c.loop-mark.mark-index c.args.shape.letters_high,
      from_few c.args.shape.n (get_or marks c.loop-mark.mark-index false) c.args.shape.letters_high,
    )

pub loop-mark-init : goal.loop-mark-init
loop-mark-init c = no_places c.args.shape.n c.args.marks.now c.new-places.result.items c.new-places.ensures.items

pub loop-mark-preserved : goal.loop-mark-preserved
loop-mark-preserved c =
    let marks = c.args.marks.now in
    let index = c.loop-mark.mark-index in
    one_more_place c.args.shape.n marks c.loop-mark.places.items c.push.new.self.items c.loop-mark.next c.words_from-next.result index (get_or marks index false) c.loop-mark.invariant (entry_at marks index false (get_or marks index false) c.loop-mark-test.true refl)
    c.in_ok-push.ensures.items c.words_from-next.ensures

pub returns : goal.returns
returns c = all_places c.args.shape.n c.args.marks.now c.loop-mark.places.items c.loop-mark.next c.loop-mark.mark-index (omega arith) c.loop-mark.invariant
