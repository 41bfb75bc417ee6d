use Rattle.std.proofs.Common.{◌∙◌, List, refl, subst, sym, pos}
use Rattle.std.proofs.lemmas.Bool.{false≢true}
use Rattle.std.proofs.lemmas.Option.{slice_get_within, same_Some}
use Rattle.ht_pair.specs.Bases.{IsPrefixFree}
use Rattle.ht_pair.specs.Pairs.{to_words}
use Rattle.ht_pair.specs.Steps.{Carries}
use Rattle.ht_pair.specs.declared.row.Row.{Row}
use Rattle.ht_local.specs.LocalConjugators.{ConjugatesPlaces}
use Rattle.ht_local.proofs.FoundRows.{cone_carried, conjugating_agree, found_conjugate, lists_values, posed_known, right_conjugate}
use Rattle.ht_local.proofs.rows.rows_of.Goals as goal

pub values_of-requires-clause-start : goal.values_of-requires-clause-start
values_of-requires-clause-start c = slice_get_within c.args.k.now c.args.start c.requires.start.0 c.requires.start.1

pub commute-requires-clause-lists : goal.commute-requires-clause-lists
commute-requires-clause-lists c = lists_values c.in_ok-lists.ensures.lists

pub returns-then-not-branch-clause-found : goal.returns-then-not-branch-clause-found
returns-then-not-branch-clause-found c = λ h conjugates right e.
    let p = posed_known c.keeps_kinds.ensures c.keeps_kinds-2.ensures c.requires.shape c.requires.first c.requires.known in
    let are = c.in_ok-lists.ensures.lists in
    let l = c.args.l.now in
    false≢true (sym c.if-not-branch.true ∙ c.in_ok-commute.ensures.1 (conjugating_agree p are l (right_conjugate p are l h conjugates right)))

pub returns-then-not-branch-2-clause-found : goal.returns-then-not-branch-2-clause-found
returns-then-not-branch-2-clause-found c = λ h conjugates right e.
    let p = posed_known c.keeps_kinds.ensures c.keeps_kinds-2.ensures c.requires.shape c.requires.first c.requires.known in
    let free = (right_conjugate p c.in_ok-lists.ensures.lists c.args.l.now h conjugates right).to.prefix_free in
    false≢true (sym c.if-not-branch-2.true ∙ c.in_ok-are_apart.ensures.1 (subst (λ (rows : List Row). IsPrefixFree (to_words rows)) (sym (c.as_slice.ensures ∙ c.in_ok-rows.ensures)) free))

pub returns-clause-conjugates : goal.returns-clause-conjugates
returns-clause-conjugates c = λ rows e.
    let p = posed_known c.keeps_kinds.ensures c.keeps_kinds-2.ensures c.requires.shape c.requires.first c.requires.known in
    let lists = c.in_ok-lists.ensures in
    let free = subst (λ (rows : List Row). IsPrefixFree (to_words rows)) (c.as_slice.ensures ∙ c.in_ok-rows.ensures) (c.in_ok-are_apart.ensures.0 c.if-not-branch-2.false) in
    let start = c.requires.start in
    subst (ConjugatesPlaces c.args.f.now c.args.k.now c.args.g.now c.args.l.now) (sym c.in_ok-rows.ensures ∙ same_Some c.in_ok-rows.rows rows e)
    (found_conjugate p lists.lists c.requires.second (c.in_ok-commute.ensures.0 c.if-not-branch.false) free c.args.start start.0 start.1 start.2 c.requires.inside lists.cone)

pub returns-clause-start : goal.returns-clause-start
returns-clause-start c = λ rows place x word e at here known.
    let p = posed_known c.keeps_kinds.ensures c.keeps_kinds-2.ensures c.requires.shape c.requires.first c.requires.known in
    let lists = c.in_ok-lists.ensures in
    subst (λ (rows : List Row). Carries c.args.f.now.element.shape rows (pos 1) x word) (sym c.in_ok-rows.ensures ∙ same_Some c.in_ok-rows.rows rows e)
    (cone_carried p lists.lists (record { place = place; at = at; here = here; cone = lists.cone (record { word = word; power = pos 0 }) known refl }))
