use Rattle.std.proofs.Common.{◌++◌, [], List, length, refl, sym, ap, ◌∙◌, subst, append-nil}
use Rattle.std.proofs.lemmas.List.{append_assoc}
use Rattle.std.proofs.lemmas.Option.{slice_get_read}
use Rattle.ht_pair.specs.declared.row.Row.{Row}
use Rattle.ht_cycles.specs.Cycles.{AreRounds}
use Rattle.ht_cycles.proofs.CycleRowLaws.{rounds_more, rounds_done}
use Rattle.ht_cycles.proofs.matches.add_rounds.Goals as goal

pub loop-place-preserved : goal.loop-place-preserved
loop-place-preserved c =
    let shape = c.args.f.now.shape in
    let f = c.args.f.now.rows in
    let g = c.args.g.now.rows in
    let us = c.args.from.now in
    let vs = c.args.to.now in
    let place = c.loop-place.place in
    let so_far = c.loop-place.invariant in
    let round = c.in_ok-add_round.ensures in
    record {
      added = so_far.added ++ round.0;
      is = round.1 ∙ ap (λ (t : List Row). t ++ round.0) so_far.is ∙ append_assoc c.args.rows.now so_far.added round.0;
      rounds = λ others rest. subst (AreRounds shape f g c.args.m us vs) (sym (append_assoc so_far.added round.0 others)) (so_far.rounds (round.0 ++ others)
          (rounds_more shape f g c.args.m us vs place c.index-from-place.result c.index-to-place.result round.0 others
          (slice_get_read us (length us) place c.index-from-place.result refl c.loop-place-test.true c.index-from-place.is) (slice_get_read vs (length us) place c.index-to-place.result c.requires.many c.loop-place-test.true c.index-to-place.is) round.2 rest));
    }

pub returns : goal.returns
returns c =
    let so_far = c.loop-place.invariant in
    let place = c.loop-place.place in
    let all = so_far.rounds [] (rounds_done c.args.f.now.shape c.args.f.now.rows c.args.g.now.rows c.args.m c.args.from.now c.args.to.now place c.loop-place-test.false) in
    (so_far.added, so_far.is, subst (AreRounds c.args.f.now.shape c.args.f.now.rows c.args.g.now.rows c.args.m c.args.from.now c.args.to.now) (append-nil so_far.added) all)
