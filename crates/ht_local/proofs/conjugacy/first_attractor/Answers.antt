use Rattle.std.proofs.Common.{inl, inr, subst, arith}
use Rattle.ht_pieces.proofs.AtomEnds.{has_attractor}
use Rattle.ht_types.specs.WordKinds.{HasKind}
use Rattle.ht_local.specs.Candidates.{IsWordAt}
use Rattle.ht_local.proofs.CandidateLaws.{before_or}
use Rattle.ht_local.proofs.LeastAttractors.{first_least}
use Rattle.ht_local.proofs.PlaceLaws.{kind_at, other_kind, place_within, word_somewhere}
use Rattle.ht_local.proofs.conjugacy.first_attractor.Goals as goal
use Rattle.ht_types.proofs.TypedLaws.{typed_base}

pub kind-requires : goal.kind-requires
kind-requires c = place_within c.args.f.now c.args.k.now c.requires c.loop-index.index c.at.result.now c.at.ensures

pub returns-in-Attractor-clause-least : goal.returns-in-Attractor-clause-least
returns-in-Attractor-clause-least c = λ x w.
    let t = c.args.f.now in
    let has = kind_at t c.keeps_kinds.ensures c.args.k.now c.loop-index.index c.at.result.now x c.kind.result.now w c.at.ensures c.kind.ensures.kind in
    first_least t c.keeps_kinds.ensures c.args.k.now c.requires c.loop-index.index x w
    (c.in-Attractor.m, c.in-Attractor.by, subst (HasKind t.element.shape t.element.rows t.quasi.basis.words x) c.in-Attractor.is has) c.loop-index.invariant

pub loop-index-preserved : goal.loop-index-preserved
loop-index-preserved c = λ i x less w.
    let t = c.args.f.now in
    let i0 = c.loop-index.index in
    elim (before_or i i0 less) [
      | inl early ↦ c.loop-index.invariant i x early w
      | inr e ↦ other_kind t c.keeps_kinds.ensures x c.kind.result.now
          (kind_at t c.keeps_kinds.ensures c.args.k.now i0 c.at.result.now x c.kind.result.now (subst (λ k. IsWordAt t c.args.k.now k x) e w) c.at.ensures c.kind.ensures.kind) c.in_default.not-Attractor
    ]

pub unreachable-requires : goal.unreachable-requires
unreachable-requires c =
    let t = c.args.f.now in
    let h = has_attractor (typed_base t c.keeps_kinds.ensures) c.requires in
    let w = word_somewhere t c.args.k.now h.0 h.1 in
    let far = c.loop-index-test.false in
    let end = c.len-index-end.ensures in
    let within = w.within in
    c.loop-index.invariant w.index h.0 (omega arith) w.word h.2
