use Rattle.std.proofs.Common.{◌≡◌, ◌∙◌, subst, sym, ap, pos}
use Rattle.ht_word.specs.Words.{IsUnderSome}
use Rattle.ht_pair.specs.Elements.{ElementValue}
use Rattle.ht_pair.specs.HeldBases.{IsPlaceAbove}
use Rattle.ht_pair.specs.Pairs.{IsPair}
use Rattle.ht_pair.specs.ValueLists.{IsFollowed, IsValueList}
use Rattle.ht_quasi.specs.declared.quasi.Quasi.{Quasi}
use Rattle.ht_local.proofs.AgreeingLaws.{lists_agree}
use Rattle.ht_local.proofs.FoundRows.{lists_over}
use Rattle.ht_local.proofs.StepBelowLaws.{step_carries, step_place, step_to_under, step_to_word}
use Rattle.ht_local.proofs.tests.agrees_along.Goals as goal

pub unreachable-requires : goal.unreachable-requires
unreachable-requires c =
    c.in_default.ensures (subst (λ (q : Quasi). IsUnderSome c.args.row.now.to q.basis.words) (sym c.quasi.ensures.quasi) (step_to_under c.args.f.now c.keeps_kinds.ensures c.args.k.now c.requires.atom c.requires.row))

pub unreachable-requires-in_default-index_of : goal.unreachable-requires-in_default-index_of
unreachable-requires-in_default-index_of c =
    c.in_default-index_of.ensures (step_place c.args.f.now c.keeps_kinds.ensures c.args.k.now c.requires.atom c.requires.row c.in-Some.place
    (subst (λ (q : Quasi). IsPlaceAbove q.basis.words c.args.row.now.to c.in-Some.place) c.quasi.ensures.quasi c.in-Some.ensures))

pub list_behind-requires-clause-word : goal.list_behind-requires-clause-word
list_behind-requires-clause-word c = (step_carries c.args.f.now c.keeps_kinds.ensures c.args.k.now c.requires.atom c.requires.row).word

pub list_behind-requires-clause-under : goal.list_behind-requires-clause-under
list_behind-requires-clause-under c = let s = c.requires.row in (s.place, s.place_at, record { word = s.above; here = s.here; above = s.under })

pub step-requires : goal.step-requires
step-requires c =
    let is : c.element.result.now.shape ≡ c.args.f.now.element.shape = ap (λ (e : ElementValue). e.shape) c.element.ensures.element ∙ c.requires.shape in
    subst (λ s. IsValueList s c.in_ok-before.before) (sym is) c.in_ok-before.ensures.value_list

pub list_behind-requires-2-clause-word : goal.list_behind-requires-2-clause-word
list_behind-requires-2-clause-word c = step_to_word c.args.f.now c.keeps_kinds.ensures c.args.k.now c.requires.atom c.requires.row

pub list_behind-requires-2-clause-under : goal.list_behind-requires-2-clause-under
list_behind-requires-2-clause-under c = (
  c.in-Some.place,
  c.in-Some-index_of.ensures,
  subst (λ (q : Quasi). IsPlaceAbove q.basis.words c.args.row.now.to c.in-Some.place) c.quasi.ensures.quasi c.in-Some.ensures,
)

pub returns : goal.returns
returns c =
    let f = c.args.f.now in
    let g = c.args.g.now in
    let table = lists_over f c.keeps_kinds.ensures c.args.k.now c.requires.atom c.args.lists.now c.requires.many c.requires.lists in
    let pair : IsPair f.element.shape g.element.rows = subst (λ s. IsPair s g.element.rows) c.requires.shape c.keeps_kinds-2.ensures.canonical.pair in
    let followed : IsFollowed f.element.shape c.in_ok-before.before g.element.rows (pos 1) c.in_ok-first.first =
    subst (λ s. IsFollowed s c.in_ok-before.before g.element.rows (pos 1) c.in_ok-first.first) c.requires.shape
    (subst (λ (e : ElementValue). IsFollowed e.shape c.in_ok-before.before e.rows (pos 1) c.in_ok-first.first) c.element.ensures.element c.in_ok-first.ensures) in
    let agree = lists_agree table pair c.in_ok-before.ensures followed c.in_ok-second.ensures in
    ((λ yes. agree.0 (c.same.ensures.0 yes)), (λ h. c.same.ensures.1 (agree.1 h)))
