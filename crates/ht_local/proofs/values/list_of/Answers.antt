use Rattle.std.proofs.Common.{◌≡◌, ◌∙◌, ℕ, List, Some, slice_get, subst, sym, ap, pos}
use Rattle.std.proofs.lemmas.Result.{IfOk-weaker}
use Rattle.ht_word.specs.Words.{IsLetters}
use Rattle.ht_pair.specs.Elements.{ElementValue}
use Rattle.ht_pair.specs.Images.{Entry}
use Rattle.ht_pair.specs.ValueLists.{IsValueList, IsFollowed}
use Rattle.ht_types.specs.declared.direction.Direction.{Direction}
use Rattle.ht_types.specs.Flows.{power_in}
use Rattle.ht_local.specs.PlacedLists.{IsListAt}
use Rattle.ht_local.proofs.PlacedListLaws.{ArePosed, led_shape, list_next, step_back, way_letters}
use Rattle.ht_local.proofs.SendingLaws.{IsBehind}
use Rattle.ht_local.proofs.values.list_of.Goals as goal

pub behind-requires-clause-image : goal.behind-requires-clause-image
behind-requires-clause-image c =
    let n = c.in-Some.ensures in
    let is : c.args.f.now.element.shape ≡ c.shape.result = sym (c.shape.ensures ∙ ap (λ (e : ElementValue). e.shape) c.element.ensures.element) in
    subst (λ s. IsValueList s c.in-Some-list_in.list.now) is (c.requires.lists.each c.in-Some.next.to n.place c.in-Some-list_in.list.now n.place_at c.in-Some-list_in.ensures).list

pub behind-requires-clause-letters : goal.behind-requires-clause-letters
behind-requires-clause-letters c =
    let p : ArePosed c.args.f.now c.args.k.now c.args.g.now c.args.known.now = record { first = c.keeps_kinds.ensures; second = c.keeps_kinds-2.ensures; posed = c.requires.posed } in
    let is : c.args.f.now.element.shape ≡ c.shape.result = sym (c.shape.ensures ∙ ap (λ (e : ElementValue). e.shape) c.element.ensures.element) in
    let letters = way_letters p c.in-Some.ensures in
    subst (λ s. IsLetters s c.in-Some.next.rest.now) is letters

pub returns : goal.returns
returns c =
    let p : ArePosed c.args.f.now c.args.k.now c.args.g.now c.args.known.now = record { first = c.keeps_kinds.ensures; second = c.keeps_kinds-2.ensures; posed = c.requires.posed } in
    let next = c.in-Some.next in
    let L = c.in-Some-list_in.list.now in
    let B = c.in_ok-behind.behind in
    let mover = c.mover.result.now in
    let back = ap (λ (d : Direction). power_in d 1) c.opposite.ensures ∙ step_back next.direction in
    let is : c.shape.result ≡ c.args.f.now.element.shape = c.shape.ensures ∙ ap (λ (e : ElementValue). e.shape) c.element.ensures.element in
    let led = led_shape c.opposite.result c.args.g.now.element mover c.mover.ensures ∙ c.requires.posed.shape in
    let list : IsValueList c.args.f.now.element.shape B = subst (λ s. IsValueList s B) is c.in_ok-behind.ensures.list in
    let behind : IsBehind c.args.f.now.element.shape L next.rest.now B = subst (λ s. IsBehind s L next.rest.now B) is c.in_ok-behind.ensures.sends in
    IfOk-weaker c.step.result _ (λ (made : List Entry). (place : ℕ) → slice_get c.args.k.now c.args.index ≡ Some place → IsListAt c.args.f.now c.args.k.now c.args.g.now c.args.known.now place made)
    (λ M followed. list_next p next.direction c.opposite.result c.args.index next.to next.rest.now L B M mover c.in-Some.ensures back
    (λ place at. c.requires.lists.each next.to place L at c.in-Some-list_in.ensures) list behind c.mover.ensures (subst (λ s. IsFollowed s B mover.rows (pos 1) M) led followed)) c.step.ensures
