use Rattle.std.proofs.Common.{◌≡◌, inl, inr, List, None, Some, slice_get, sym, ap, ◌∙◌, subst, arith}
use Rattle.std.proofs.lemmas.List.Elements.{All-contains}
use Rattle.std.proofs.lemmas.Option.{same_Some}
use Rattle.ht_quasi.proofs.StepLaws.{at_place}
use Rattle.ht_local.specs.declared.known.Known.{Known}
use Rattle.ht_local.specs.declared.candidates.Candidate.{Candidate}
use Rattle.ht_local.specs.Candidates.{IsFront, known_of}
use Rattle.ht_local.specs.KnownValues.{IsCandidate, IsHeld}
use Rattle.ht_local.specs.LocalTrials.{TellsWith}
use Rattle.ht_local.proofs.CandidateLaws.{attractor_read, before_or}
use Rattle.ht_local.proofs.LocalLaws.{candidate_inside, least_end, none_conjugate, tells_local}
use Rattle.ht_local.proofs.PlaceLaws.{entry_listed, kind_at, other_kind, place_within, start_word}
use Rattle.ht_local.proofs.conjugacy.local.Goals as goal

pub kind-requires : goal.kind-requires
kind-requires g c = place_within c.args.f.now c.args.k.now c.requires.first c.first_attractor-start.result c.at.result.now c.at.ensures

pub unreachable-requires : goal.unreachable-requires
unreachable-requires g c =
    let f = c.args.f.now in
    let k = c.args.k.now in
    let w = start_word f k c.requires.first c.first_attractor-start.result c.at.result.now c.at.ensures in
    let has = kind_at f c.keeps_kinds.ensures k c.first_attractor-start.result c.at.result.now w.word c.kind.result.now w.at c.at.ensures c.kind.ensures.kind in
    other_kind f c.keeps_kinds.ensures w.word c.kind.result.now has c.in_default.not-Attractor (c.first_attractor-start.ensures.least w.word w.at).attractor

pub with_first-requires-clause-start : goal.with_first-requires-clause-start
with_first-requires-clause-start g c =
    let f = c.args.f.now in
    let k = c.args.k.now in
    let w = start_word f k c.requires.first c.first_attractor-start.result c.at.result.now c.at.ensures in
    (c.at.result.now, c.at.ensures, least_end f k c.first_attractor-start.result c.at.result.now w.word w.at (c.first_attractor-start.ensures.least w.word w.at) c.at.ensures)

pub known_of-requires : goal.known_of-requires
known_of-requires g c = All-contains (IsFront c.args.g.now) c.in_ok-firsts.firsts c.at-in-loop-index.result.now c.in_ok-firsts.ensures.fronts (entry_listed c.in_ok-firsts.firsts c.loop-index.index c.at-in-loop-index.result.now c.at-in-loop-index.ensures)

pub with_first-requires-clause-held : goal.with_first-requires-clause-held
with_first-requires-clause-held g c =
    let other = c.args.g.now in
    let firsts = c.in_ok-firsts.firsts in
    let first = c.at-in-loop-index.result.now in
    subst (IsHeld other) (sym c.in_ok-first.ensures) (All-contains (λ (d : Candidate). IsHeld other (known_of other d)) firsts first c.in_ok-firsts.ensures.held (entry_listed firsts c.loop-index.index first c.at-in-loop-index.ensures))

pub with_first-requires-clause-inside : goal.with_first-requires-clause-inside
with_first-requires-clause-inside g c =
    let other = c.args.g.now in
    let l = c.args.l.now in
    let m = c.in-Attractor.m in
    let by = c.in-Attractor.by in
    let firsts = c.in_ok-firsts.firsts in
    let first = c.at-in-loop-index.result.now in
    candidate_inside (subst (IsCandidate other l m by) (sym c.in_ok-first.ensures)
    (All-contains (λ (d : Candidate). IsCandidate other l m by (known_of other d)) firsts first c.in_ok-firsts.ensures.each (entry_listed firsts c.loop-index.index first c.at-in-loop-index.ensures)))

pub returns-in-Some : goal.returns-in-Some
returns-in-Some g c =
    let f = c.args.f.now in
    let other = c.args.g.now in
    let k = c.args.k.now in
    let l = c.args.l.now in
    let m = c.in-Attractor.m in
    let by = c.in-Attractor.by in
    let w = start_word f k c.requires.first c.first_attractor-start.result c.at.result.now c.at.ensures in
    let firsts = c.in_ok-firsts.firsts in
    let first = c.at-in-loop-index.result.now in
    let candidate = subst (IsCandidate other l m by) (sym c.in_ok-first.ensures)
    (All-contains (λ (d : Candidate). IsCandidate other l m by (known_of other d)) firsts first c.in_ok-firsts.ensures.each (entry_listed firsts c.loop-index.index first c.at-in-loop-index.ensures)) in
    tells_local f other c.keeps_kinds.ensures c.keeps_kinds-2.ensures c.requires.shape k l c.requires.first c.requires.second w.word m by
    (c.first_attractor-start.ensures.least w.word w.at) c.in_ok-first.first candidate c.in-Some.rows (subst (TellsWith f k other l w.word c.in_ok-first.first) c.in-Some.is (c.in_ok-rows.ensures w.word w.at))

pub loop-index-preserved : goal.loop-index-preserved
loop-index-preserved g c = λ i first x less here at. elim (before_or i c.loop-index.index less) [
  | inl early ↦ c.loop-index.invariant i first x early here at
  | inr e ↦
      let f = c.args.f.now in
      let k = c.args.k.now in
      let other = c.args.g.now in
      let l = c.args.l.now in
      let firsts = c.in_ok-firsts.firsts in
      let there : slice_get firsts c.loop-index.index ≡ Some first = ap (λ (v : List Candidate). slice_get v c.loop-index.index) (sym c.firsts.view_is) ∙ ap (λ j. slice_get c.firsts.inside.items.items j) (sym e) ∙ here in
      let same : c.at-in-loop-index.result.now ≡ first = same_Some _ _ (sym c.at-in-loop-index.ensures ∙ there) in
      let is : c.in_ok-first.first ≡ known_of other first = c.in_ok-first.ensures ∙ ap (known_of other) same in
      subst (λ (v : Known). TellsWith f k other l x v None) is (subst (TellsWith f k other l x c.in_ok-first.first) c.in_default-2.is (c.in_ok-rows.ensures x at))
]

pub returns : goal.returns
returns g c =
    let f = c.args.f.now in
    let k = c.args.k.now in
    let w = start_word f k c.requires.first c.first_attractor-start.result c.at.result.now c.at.ensures in
    let least = c.first_attractor-start.ensures.least w.word w.at in
    let attractor = attractor_read f c.keeps_kinds.ensures k c.first_attractor-start.result c.at.result.now w.word c.kind.result.now c.in-Attractor.m c.in-Attractor.by w.at c.at.ensures c.kind.ensures.kind c.in-Attractor.is in
    let far = c.loop-index-test.false in
    let end = c.len-index-end.ensures in
    none_conjugate f c.args.g.now c.keeps_kinds.ensures c.keeps_kinds-2.ensures c.requires.shape k c.args.l.now c.requires.first c.requires.second w.word c.in-Attractor.m c.in-Attractor.by least.listed attractor c.in_ok-firsts.firsts c.in_ok-firsts.ensures.each
    c.in_ok-firsts.ensures.all (λ first listed.
    let within = listed.1 in
    c.loop-index.invariant listed.0 first w.word (omega arith) (ap (λ (v : List Candidate). slice_get v listed.0) c.firsts.view_is ∙ at_place c.in_ok-firsts.firsts first listed) w.at)
