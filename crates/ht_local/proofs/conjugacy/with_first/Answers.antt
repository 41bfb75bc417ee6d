use Rattle.std.proofs.Common.{◌≡◌, ◌∙◌, List, Option, Some, pos, sym, ap, subst}
use Rattle.std.proofs.lemmas.Option.{same_Some}
use Rattle.ht_word.specs.Words.{IsUnderSome}
use Rattle.ht_pair.specs.Atoms.{IsAtom, words_at}
use Rattle.ht_local.specs.declared.known.Known.{Known}
use Rattle.ht_local.proofs.FirstValues.{tells_none, tells_result}
use Rattle.ht_local.proofs.conjugacy.with_first.Goals as goal

pub returns-in_default : goal.returns-in_default
returns-in_default g c =
    let other = c.args.g.now in
    let l = c.args.l.now in
    tells_none c.args.f.now other c.args.k.now l c.args.start c.args.first (subst (λ s. IsAtom s other.element.rows other.quasi.basis.words l) c.requires.shape c.requires.second) c.in_ok-known.field-0
    c.in_ok-known.ensures.right c.in_default.is

pub rows_of-requires-clause-second : goal.rows_of-requires-clause-second
rows_of-requires-clause-second g c = subst (λ s. IsAtom s c.args.g.now.element.rows c.args.g.now.quasi.basis.words c.args.l.now) c.requires.shape c.requires.second

pub rows_of-requires-clause-inside : goal.rows_of-requires-clause-inside
rows_of-requires-clause-inside g c = λ value here.
    let other = c.args.g.now in
    let is = c.in-Some.is ∙ ap (λ (v : List (Option Known)). Some v) (sym c.as_slice.ensures) in
    let first = (c.in_ok-known.ensures.known c.as_slice.result.now is).first_is in
    let same : c.args.first ≡ value = same_Some c.args.first value (same_Some (Some c.args.first) (Some value) (sym first ∙ here)) in
    subst (λ (v : Known). (v.power ≡ pos 0) × IsUnderSome v.word (words_at other.quasi.basis.words c.args.l.now)) same c.requires.inside

pub returns : goal.returns
returns g c =
    let other = c.args.g.now in
    let l = c.args.l.now in
    let known = c.as_slice.result.now in
    let is = c.in-Some.is ∙ ap (λ (v : List (Option Known)). Some v) (sym c.as_slice.ensures) in
    tells_result c.args.f.now other c.args.k.now l c.args.start c.args.first (subst (λ s. IsAtom s other.element.rows other.quasi.basis.words l) c.requires.shape c.requires.second) c.in_ok-known.field-0
    c.in_ok-known.ensures.right known is (c.in_ok-known.ensures.known known is).first_is c.rows_of.result c.rows_of.ensures.conjugates c.rows_of.ensures.start c.rows_of.ensures.found
