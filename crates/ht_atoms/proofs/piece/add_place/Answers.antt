use Rattle.std.proofs.Common.{◌≡◌, length, ap, arith}
use Rattle.std.proofs.Math.ListN.{set}
use Rattle.std.proofs.lemmas.Result.{on_ok_weaker}
use Rattle.ht_atoms.proofs.PieceLaws.{place_unmarked, place_begins, place_joins}
use Rattle.ht_atoms.proofs.piece.add_place.Goals as goal

pub returns-then-not-marks-place : goal.returns-then-not-marks-place
returns-then-not-marks-place c = place_unmarked c.args.marks.now c.args.labels.now c.args.place c.args.slots.now c.args.pieces.now.items c.if-not-marks-place.true c.requires.before

pub returns-then-label-place : goal.returns-then-label-place
returns-then-label-place c =
    on_ok_weaker c.begin.result
    (λ begun. place_begins c.args.marks.now c.args.labels.now c.args.place c.args.slots.now _ c.args.pieces.now.items c.begin.new.pieces.items c.requires.place c.requires.firsts c.if-not-marks-place.false c.if-label-place.true
    (ap (λ n. set c.args.slots.now c.args.place n) (let many : c.len.result ≡ length c.args.pieces.now.items = omega (arith, c.len.ensures, c.args.pieces.now.ok.0) in many)) begun c.requires.before)
    c.begin.ensures

pub returns : goal.returns
returns c =
    on_ok_weaker c.push.result
    (λ pushed. place_joins c.args.marks.now c.args.labels.now c.args.place c.args.slots.now c.args.pieces.now.items c.index_mut.result.now c.push.new.self c.requires.firsts c.if-not-marks-place.false c.if-label-place.false c.index_mut.ensures.value pushed c.requires.before)
    c.push.ensures.ok
