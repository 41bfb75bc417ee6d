use Rattle.std.proofs.Common.{◌<◌, ℕ, refl, sym, subst, arith}
use Rattle.ht_word.specs.declared.shape.Shape.{Shape}
use Rattle.ht_cycles.specs.Cycles.{group, ArePicked}
use Rattle.ht_cycles.specs.MatchedLengths.{MatchLengths}
use Rattle.ht_cycles.proofs.MatchedLengthLaws.{match_none}
use Rattle.ht_cycles.proofs.MatchLaws.{picked_here, typed_match, typed_as_many}
use Rattle.ht_cycles.proofs.matches.matched.Goals as goal

pub loop-m-init : goal.loop-m-init
loop-m-init c =
    let f = c.args.f.now in
    let g = c.args.g.now in
    subst (MatchLengths f.element.shape f.element.rows f.quasi.basis.words g.element.rows g.quasi.basis.words (λ k. k < 0)) (sym c.new-rows.ensures) (match_none f.element.shape f.element.rows f.quasi.basis.words g.element.rows g.quasi.basis.words)

pub match_length-requires-clause-first : goal.match_length-requires-clause-first
match_length-requires-clause-first c =
    let f = c.args.f.now in
    picked_here f.element.shape f.element.shape f.element.rows f.quasi.basis.words c.in_ok-first.first.items c.deref.result.now c.loop-m.m c.group_of-from.result.now refl c.in_ok-first.ensures c.deref.ensures.value c.group_of-from.ensures

pub match_length-requires-clause-second : goal.match_length-requires-clause-second
match_length-requires-clause-second c =
    let g = c.args.g.now in
    picked_here c.args.f.now.element.shape g.element.shape g.element.rows g.quasi.basis.words c.in_ok-second.second.items c.deref-in-loop-m.result.now c.loop-m.m c.group_of-to.result.now c.requires.shape c.in_ok-second.ensures c.deref-in-loop-m.ensures.value c.group_of-to.ensures

pub match_length-requires-clause-some : goal.match_length-requires-clause-some
match_length-requires-clause-some c =
    let f = c.args.f.now in
    let g = c.args.g.now in
    let R = c.group_of-from.result.now in
    let S = c.group_of-to.result.now in
    let first = picked_here f.element.shape f.element.shape f.element.rows f.quasi.basis.words c.in_ok-first.first.items c.deref.result.now c.loop-m.m R refl c.in_ok-first.ensures c.deref.ensures.value c.group_of-from.ensures in
    let second = picked_here f.element.shape g.element.shape g.element.rows g.quasi.basis.words c.in_ok-second.second.items c.deref-in-loop-m.result.now c.loop-m.m S c.requires.shape c.in_ok-second.ensures c.deref-in-loop-m.ensures.value c.group_of-to.ensures in
    (typed_as_many f g c.keeps_kinds.ensures c.keeps_kinds-2.ensures c.requires.shape c.requires.profile c.loop-m.m R S first second).some

pub match_length-requires-clause-alike : goal.match_length-requires-clause-alike
match_length-requires-clause-alike c =
    let f = c.args.f.now in
    let g = c.args.g.now in
    let R = c.group_of-from.result.now in
    let S = c.group_of-to.result.now in
    let first = picked_here f.element.shape f.element.shape f.element.rows f.quasi.basis.words c.in_ok-first.first.items c.deref.result.now c.loop-m.m R refl c.in_ok-first.ensures c.deref.ensures.value c.group_of-from.ensures in
    let second = picked_here f.element.shape g.element.shape g.element.rows g.quasi.basis.words c.in_ok-second.second.items c.deref-in-loop-m.result.now c.loop-m.m S c.requires.shape c.in_ok-second.ensures c.deref-in-loop-m.ensures.value c.group_of-to.ensures in
    (typed_as_many f g c.keeps_kinds.ensures c.keeps_kinds-2.ensures c.requires.shape c.requires.profile c.loop-m.m R S first second).alike

pub returns : goal.returns
returns c =
    let f = c.args.f.now in
    let g = c.args.g.now in
    let second = subst (λ (s : Shape). (m : ℕ) → ArePicked s g.element.rows g.quasi.basis.words m (group c.in_ok-second.second.items m)) c.requires.shape c.in_ok-second.ensures in
    typed_match f g c.keeps_kinds.ensures c.keeps_kinds-2.ensures c.requires.shape c.in_ok-first.first.items c.in_ok-second.second.items c.in_ok-first.ensures second c.loop-m.m (omega (arith, c.loop-m-test.false, c.max-m-end.ensures)) (omega (arith, c.loop-m-test.false, c.max-m-end.ensures)) c.loop-m.rows c.loop-m.invariant
