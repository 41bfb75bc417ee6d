use Rattle.std.proofs.Common.{◌∙◌, subst, sym, arith, pos, neg_ℤ}
use Rattle.std.specs.Int.{w128}
use Rattle.std.proofs.lemmas.Int.{ints, fits_signed_from_abs}
use Rattle.ht_local.specs.Ways.{IsAnchor}
use Rattle.ht_local.proofs.WayLaws.{end_anchor, less_fits, place_within, reached_ahead, reached_anchor, reached_behind, short_ahead, short_behind, some_kind, steps_ahead, steps_back}
use Rattle.ht_local.proofs.values.anchor_of.Goals as goal

pub kind-kind-requires : goal.kind-kind-requires
kind-kind-requires c = place_within c.args.f.now c.keeps_kinds.ensures c.args.k.now c.requires.atom c.args.index c.at.result.now c.at.ensures

pub returns-then-is_end : goal.returns-then-is_end
returns-then-is_end c = end_anchor c.args.f.now c.keeps_kinds.ensures c.args.k.now c.requires.atom c.args.index c.at.result.now c.at.ensures c.kind-kind.result.now c.kind-kind.ensures.kind (sym c.is_end.ensures ∙ c.if-is_end.true)

pub overflow_cast-reach : goal.overflow_cast-reach
overflow_cast-reach c =
    let reach = c.in-Some.reach.now in
    let short = short_ahead c.args.f.now c.keeps_kinds.ensures c.args.k.now c.requires.atom c.at.result.now reach c.kind-kind.result.now c.kind-kind.ensures.kind c.in-Some.ensures in
    fits_signed_from_abs w128 (pos reach.steps) (omega arith)

pub reached-requires-clause-listed : goal.reached-requires-clause-listed
reached-requires-clause-listed c =
    (reached_ahead c.args.f.now c.keeps_kinds.ensures c.args.k.now c.requires.atom c.args.index c.at.result.now c.at.ensures c.in-Some.reach.now c.kind-kind.result.now c.kind-kind.ensures.kind c.in-Some.ensures).listed

pub returns-in-Some : goal.returns-in-Some
returns-in-Some c =
    let t = c.args.f.now in
    let k = c.args.k.now in
    let reach = c.in-Some.reach.now in
    let found = c.reached.result in
    let short = short_ahead t c.keeps_kinds.ensures k c.requires.atom c.at.result.now reach c.kind-kind.result.now c.kind-kind.ensures.kind c.in-Some.ensures in
    let r = reached_ahead t c.keeps_kinds.ensures k c.requires.atom c.args.index c.at.result.now c.at.ensures reach c.kind-kind.result.now c.kind-kind.ensures.kind c.in-Some.ensures in
    let a : IsAnchor t k c.args.index found.end (pos reach.steps) reach.rest = reached_anchor t c.keeps_kinds.ensures k c.requires.atom r found.end c.reached.ensures.0 (omega arith) in
    subst (λ z. IsAnchor t k c.args.index found.end found.steps z) (sym c.reached.ensures.2)
    (subst (λ i. IsAnchor t k c.args.index found.end i reach.rest) (sym (steps_ahead reach.steps short) ∙ sym c.reached.ensures.1) a)

pub unreachable-requires : goal.unreachable-requires
unreachable-requires c =
    some_kind c.args.f.now c.keeps_kinds.ensures c.args.k.now c.requires.atom c.args.index c.at.result.now c.at.ensures c.kind-kind.result.now c.kind-kind.ensures.kind (sym c.is_end.ensures ∙ c.if-is_end.false) c.in_default.ensures c.in_default-reach_behind.ensures

pub overflow_cast-reach-2 : goal.overflow_cast-reach-2
overflow_cast-reach-2 c =
    let reach = c.in-Some-reach_behind.reach.now in
    let short = short_behind c.args.f.now c.keeps_kinds.ensures c.args.k.now c.requires.atom c.at.result.now reach c.kind-kind.result.now c.kind-kind.ensures.kind c.in-Some-reach_behind.ensures in
    fits_signed_from_abs w128 (pos reach.steps) (omega arith)

pub overflow_sub-reach : goal.overflow_sub-reach
overflow_sub-reach c =
    let reach = c.in-Some-reach_behind.reach.now in
    less_fits reach.steps (short_behind c.args.f.now c.keeps_kinds.ensures c.args.k.now c.requires.atom c.at.result.now reach c.kind-kind.result.now c.kind-kind.ensures.kind c.in-Some-reach_behind.ensures)

pub reached-requires-2-clause-listed : goal.reached-requires-2-clause-listed
reached-requires-2-clause-listed c =
    (reached_behind c.args.f.now c.keeps_kinds.ensures c.args.k.now c.requires.atom c.args.index c.at.result.now c.at.ensures c.in-Some-reach_behind.reach.now c.kind-kind.result.now c.kind-kind.ensures.kind c.in-Some-reach_behind.ensures).listed

pub returns : goal.returns
returns c =
    let t = c.args.f.now in
    let k = c.args.k.now in
    let reach = c.in-Some-reach_behind.reach.now in
    let found = c.reached-2.result in
    let short = short_behind t c.keeps_kinds.ensures k c.requires.atom c.at.result.now reach c.kind-kind.result.now c.kind-kind.ensures.kind c.in-Some-reach_behind.ensures in
    let r = reached_behind t c.keeps_kinds.ensures k c.requires.atom c.args.index c.at.result.now c.at.ensures reach c.kind-kind.result.now c.kind-kind.ensures.kind c.in-Some-reach_behind.ensures in
    let a : IsAnchor t k c.args.index found.end (neg_ℤ (pos reach.steps)) reach.rest = reached_anchor t c.keeps_kinds.ensures k c.requires.atom r found.end c.reached-2.ensures.0 (omega (arith, ints)) in
    subst (λ z. IsAnchor t k c.args.index found.end found.steps z) (sym c.reached-2.ensures.2)
    (subst (λ i. IsAnchor t k c.args.index found.end i reach.rest) (sym (steps_back reach.steps short) ∙ sym c.reached-2.ensures.1) a)
