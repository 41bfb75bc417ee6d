use Rattle.std.proofs.Common.{◌+◌, ◌-◌, ◌/◌, ◌<◌, length, take, drop, Contains, refl, sym, ap, ◌∙◌, subst, subst₂, arith}
use Rattle.std.proofs.lemmas.Result.{on_ok_weaker}
use Rattle.ht_word.specs.declared.word.Word.{Word}
use Rattle.ht_pair.specs.Elements.{ElementValue}
use Rattle.ht_cycles.specs.Cycles.{GoesOn, AreRounds}
use Rattle.ht_cycles.proofs.MatchedLengthLaws.{match_other_lengths}
use Rattle.ht_cycles.proofs.MatchLaws.{ready, is_expanded, all_go_on, match_grown, none_of_length}
use Rattle.ht_cycles.proofs.matches.match_length.Goals as goal

pub returns-then-first-eq0 : goal.returns-then-first-eq0
returns-then-first-eq0 c =
    let f = c.args.f.now in
    let g = c.args.g.now in
    let m = c.args.m in
    match_other_lengths f.element.shape f.element.rows f.quasi.basis.words g.element.rows g.quasi.basis.words (λ k. k < m) (λ k. k < m + 1) (λ k l. omega arith)
    (none_of_length f.element.shape f.element.rows f.quasi.basis.words m c.args.first.now c.requires.first c.if-first-eq0.true)
    (none_of_length f.element.shape g.element.rows g.quasi.basis.words m c.args.second.now c.requires.second (c.requires.some.0 c.if-first-eq0.true)) c.args.rows.now c.requires.below

pub add_rounds-requires-clause-many : goal.add_rounds-requires-clause-many
add_rounds-requires-clause-many c =
    let f = c.args.f.now in
    let g = c.args.g.now in
    let shape = f.element.shape in
    let R = c.args.first.now in
    let S = c.args.second.now in
    let most = c.max-most.result in
    let given = c.shape.ensures ∙ ap (λ (e : ElementValue). e.shape) c.element.ensures.element in
    let first = is_expanded shape shape c.shape.result f.element.rows f.quasi.basis.words (ready f.element f.quasi f.kinds shape c.keeps_kinds.ensures refl) c.args.m (length S) most ((most - length R) / (c.shape.result.n - 1)) R c.in_ok-from.from c.as_slice.result.now refl given c.requires.first c.requires.alike c.max-most.ensures refl c.in_ok-from.ensures.size c.in_ok-from.ensures.seeds c.as_slice.ensures in
    let second = is_expanded shape g.element.shape c.shape.result g.element.rows g.quasi.basis.words (ready g.element g.quasi g.kinds shape c.keeps_kinds-2.ensures c.requires.shape) c.args.m (length R) most ((most - length S) / (c.shape.result.n - 1)) S c.in_ok-to.to c.as_slice-2.result.now c.requires.shape given c.requires.second (sym c.requires.alike) (omega (arith, c.max-most.ensures)) refl c.in_ok-to.ensures.size c.in_ok-to.ensures.seeds c.as_slice-2.ensures in
    first.size ∙ sym second.size

pub add_rounds-requires-clause-from : goal.add_rounds-requires-clause-from
add_rounds-requires-clause-from c =
    let f = c.args.f.now in
    let shape = f.element.shape in
    let R = c.args.first.now in
    let most = c.max-most.result in
    let times = (most - length R) / (c.shape.result.n - 1) in
    let held = c.as_slice.result.now in
    let ready_f = ready f.element f.quasi f.kinds shape c.keeps_kinds.ensures refl in
    let given = c.shape.ensures ∙ ap (λ (e : ElementValue). e.shape) c.element.ensures.element in
    let first = is_expanded shape shape c.shape.result f.element.rows f.quasi.basis.words ready_f c.args.m (length c.args.second.now) most times R c.in_ok-from.from held refl given c.requires.first c.requires.alike c.max-most.ensures refl c.in_ok-from.ensures.size c.in_ok-from.ensures.seeds c.as_slice.ensures in
    let us = take (length held - times) (drop times held) in
    subst (λ (e : ElementValue). (u : Word) → Contains us u → GoesOn e.shape e.rows u) (sym c.element-2.ensures.element) (all_go_on shape f.element.rows f.quasi.basis.words ready_f c.args.m most us first)

pub add_rounds-requires-clause-to : goal.add_rounds-requires-clause-to
add_rounds-requires-clause-to c =
    let f = c.args.f.now in
    let g = c.args.g.now in
    let shape = f.element.shape in
    let S = c.args.second.now in
    let most = c.max-most.result in
    let times = (most - length S) / (c.shape.result.n - 1) in
    let held = c.as_slice-2.result.now in
    let ready_g = ready g.element g.quasi g.kinds shape c.keeps_kinds-2.ensures c.requires.shape in
    let given = c.shape.ensures ∙ ap (λ (e : ElementValue). e.shape) c.element.ensures.element in
    let second = is_expanded shape g.element.shape c.shape.result g.element.rows g.quasi.basis.words ready_g c.args.m (length c.args.first.now) most times S c.in_ok-to.to held c.requires.shape given c.requires.second (sym c.requires.alike) (omega (arith, c.max-most.ensures)) refl c.in_ok-to.ensures.size c.in_ok-to.ensures.seeds c.as_slice-2.ensures in
    let vs = take (length held - times) (drop times held) in
    subst₂ (λ (d e : ElementValue). (v : Word) → Contains vs v → GoesOn d.shape e.rows v) (sym c.element-2.ensures.element) (sym c.element-3.ensures.element) (all_go_on shape g.element.rows g.quasi.basis.words ready_g c.args.m most vs second)

pub returns : goal.returns
returns c =
    let f = c.args.f.now in
    let g = c.args.g.now in
    let shape = f.element.shape in
    let X = f.quasi.basis.words in
    let Y = g.quasi.basis.words in
    let R = c.args.first.now in
    let S = c.args.second.now in
    let most = c.max-most.result in
    let ahead = (most - length R) / (c.shape.result.n - 1) in
    let behind = (most - length S) / (c.shape.result.n - 1) in
    let us = take (length c.as_slice.result.now - ahead) (drop ahead c.as_slice.result.now) in
    let vs = take (length c.as_slice-2.result.now - behind) (drop behind c.as_slice-2.result.now) in
    let ready_f = ready f.element f.quasi f.kinds shape c.keeps_kinds.ensures refl in
    let ready_g = ready g.element g.quasi g.kinds shape c.keeps_kinds-2.ensures c.requires.shape in
    let given = c.shape.ensures ∙ ap (λ (e : ElementValue). e.shape) c.element.ensures.element in
    let first = is_expanded shape shape c.shape.result f.element.rows X ready_f c.args.m (length S) most ahead R c.in_ok-from.from c.as_slice.result.now refl given c.requires.first c.requires.alike c.max-most.ensures refl c.in_ok-from.ensures.size c.in_ok-from.ensures.seeds c.as_slice.ensures in
    let second = is_expanded shape g.element.shape c.shape.result g.element.rows Y ready_g c.args.m (length R) most behind S c.in_ok-to.to c.as_slice-2.result.now c.requires.shape given c.requires.second (sym c.requires.alike) (omega (arith, c.max-most.ensures)) refl c.in_ok-to.ensures.size c.in_ok-to.ensures.seeds c.as_slice-2.ensures in
    on_ok_weaker c.add_rounds.result
    (λ more.
    match_grown shape f.element.rows g.element.rows X Y ready_f ready_g c.args.m most R S us vs c.args.rows.now more.0 c.add_rounds.new.rows c.requires.first c.requires.second first second c.max-most.ensures c.requires.below more.1
    (subst₂ (λ (d e : ElementValue). AreRounds d.shape d.rows e.rows c.args.m us vs more.0) c.element-2.ensures.element c.element-3.ensures.element more.2))
    c.add_rounds.ensures
