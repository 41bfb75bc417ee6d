use Rattle.std.proofs.Common.{◌≡◌, ◌∙◌, Some, ap}
use Rattle.ht_types.specs.declared.kind.Kind.{Kind}
use Rattle.ht_types.specs.declared.kind.Kind.TheVariants.{Attractor}
use Rattle.ht_local.proofs.CandidateLaws.{attractor_read, IsKnownAttractor, none_found, other_found, tried_more, tried_past}
use Rattle.ht_local.proofs.PlaceLaws.{kind_at, other_kind, place_within, start_word}
use Rattle.ht_local.proofs.candidates.add_at.Goals as goal
use Rattle.ht_local.proofs.candidates.add_at.Goals.{then-marks-index-via-then-marks-index, then-marks-index-via-else-marks-index+then-period-m}

pub kind-requires : goal.kind-requires
kind-requires c = place_within c.args.g.now c.args.l.now c.requires.atom c.args.index c.at-place.result.now c.at-place.ensures

pub returns-in_default : goal.returns-in_default
returns-in_default c =
    let g = c.args.g.now in
    let typed = c.keeps_kinds.ensures in
    tried_past g c.args.l.now c.args.m c.args.by.now c.args.index c.args.marks.now c.args.found.now c.requires.tried
    (λ x w. none_found g c.args.m c.args.by.now x c.args.found.now (other_kind g typed x c.kind.result.now (kind_at g typed c.args.l.now c.args.index c.at-place.result.now x c.kind.result.now w c.at-place.ensures c.kind.ensures.kind) c.in_default.not-Attractor))

pub returns-then-marks-index : goal.returns-then-marks-index
returns-then-marks-index c =
    let g = c.args.g.now in
    let typed = c.keeps_kinds.ensures in
    tried_past g c.args.l.now c.args.m c.args.by.now c.args.index c.args.marks.now c.args.found.now c.requires.tried (λ x at.
    elim c.then-marks-index.branch [
      | then-marks-index-via-then-marks-index w ↦ c.requires.tried.marked c.args.index x w.if-marks-index.true at
      | then-marks-index-via-else-marks-index+then-period-m w ↦ other_found g typed c.args.m c.in-Attractor.period c.args.by.now c.in-Attractor.letters x c.args.found.now
          (attractor_read g typed c.args.l.now c.args.index c.at-place.result.now x c.kind.result.now c.in-Attractor.period c.in-Attractor.letters at c.at-place.ensures c.kind.ensures.kind c.in-Attractor.is) w.if-period-m.true
    ])

pub mark_round-requires-clause-start : goal.mark_round-requires-clause-start
mark_round-requires-clause-start c = place_within c.args.g.now c.args.l.now c.requires.atom c.args.index c.at-place.result.now c.at-place.ensures

pub returns : goal.returns
returns c =
    let g = c.args.g.now in
    let l = c.args.l.now in
    let letters = c.in-Attractor.letters in
    let w = start_word g l c.requires.atom c.args.index c.at-place.result.now c.at-place.ensures in
    let period : c.in-Attractor.period ≡ c.args.m = c.if-period-m.false in
    let kind = c.kind.ensures.kind ∙ ap (λ (q : Kind). Some q) c.in-Attractor.is ∙ ap (λ m. Some (Attractor m letters)) period in
    let known : IsKnownAttractor g l c.args.index w.word c.args.m letters = record { at = record { place = c.at-place.result.now; at = c.at-place.ensures; here = w.here }; kind = kind } in
    rw (c.in_ok-add_fronts.ensures, c.deref.ensures.value) (tried_more g c.keeps_kinds.ensures l c.requires.atom c.args.m c.args.by.now c.args.index c.args.marks.now c.mark_round.new.marks c.args.found.now w.word letters c.in_ok-places.places.items c.requires.tried known
    (rw (c.as_slice.ensures, c.as_slice-2.ensures) at c.in_ok-places.ensures) c.mark_round.auto.marks (λ i. c.mark_round.ensures w.word i w.here))
