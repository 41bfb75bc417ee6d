use Rattle.std.proofs.Common.{◌≡◌, ◌∙◌, ℕ, List, [], ◌∷◌, Some, slice_get, subst, sym, refl, pos, ◌-ℤ◌, ap}
use Rattle.std.proofs.lemmas.Result.{IfOk-weaker}
use Rattle.ht_word.specs.Words.{◌·◌}
use Rattle.ht_word.specs.declared.word.Word.{Word}
use Rattle.ht_pair.specs.Elements.{ElementValue}
use Rattle.ht_pair.specs.Images.{Entry}
use Rattle.ht_pair.specs.ValueLists.{IsValueList}
use Rattle.ht_pair.proofs.ValueListLaws.{cone_of}
use Rattle.ht_local.specs.declared.known.Known.{Known}
use Rattle.ht_local.specs.PlacedLists.{IsListAt}
use Rattle.ht_local.proofs.PlacedListLaws.{ArePosed, anchored_cone, cone_anchored, followed_as, known_held, known_there, list_anchored}
use Rattle.ht_local.proofs.WayLaws.{known_fits, told_once}
use Rattle.ht_local.proofs.values.list_by_anchor.Goals as goal

pub value_at-value-requires : goal.value_at-value-requires
value_at-value-requires c =
    let p : ArePosed c.args.f.now c.args.k.now c.args.g.now c.args.known.now = record { first = c.keeps_kinds.ensures; second = c.keeps_kinds-2.ensures; posed = c.requires.posed } in
    let a = c.anchor_of-anchor.ensures in
    known_there p c.anchor_of-anchor.result.end a.way.place a.way.place_at a.ends

pub overflow_sub-value : goal.overflow_sub-value
overflow_sub-value c =
    let p : ArePosed c.args.f.now c.args.k.now c.args.g.now c.args.known.now = record { first = c.keeps_kinds.ensures; second = c.keeps_kinds-2.ensures; posed = c.requires.posed } in
    let a = c.anchor_of-anchor.ensures in
    let held = (known_held p c.anchor_of-anchor.result.end a.way.place c.value_at-value.result.now a.way.place_at c.value_at-value.ensures).1 in
    known_fits c.value_at-value.result.now.power c.anchor_of-anchor.result.steps held.few a.few

-- the cone that is made
cone_is : {word made : Word} {cone view : List Entry} → view ≡ cone → cone ≡ record { letters = []; word = made } ∷ [] → made ≡ word → view ≡ cone_of word
cone_is e h m = e ∙ h ∙ ap cone_of m

pub steps-requires : goal.steps-requires
steps-requires c =
    let p : ArePosed c.args.f.now c.args.k.now c.args.g.now c.args.known.now = record { first = c.keeps_kinds.ensures; second = c.keeps_kinds-2.ensures; posed = c.requires.posed } in
    let anchor = c.anchor_of-anchor.result in
    let value = c.value_at-value.result.now in
    let list = anchored_cone p c.args.index anchor.end anchor.steps anchor.rest.now value c.anchor_of-anchor.ensures c.value_at-value.ensures in
    let is : c.in_ok-cone.cone ≡ cone_of (value.word · anchor.rest.now) = cone_is refl c.in_ok-cone.ensures c.in_ok-word.ensures in
    let shape : c.args.f.now.element.shape ≡ c.element.result.now.shape = sym (ap (λ (e : ElementValue). e.shape) c.element.ensures.element ∙ c.requires.posed.shape) in
    subst (λ s. IsValueList s c.in_ok-cone.cone) shape (subst (IsValueList c.args.f.now.element.shape) (sym is) list)

pub returns-clause-list : goal.returns-clause-list
returns-clause-list c =
    let p : ArePosed c.args.f.now c.args.k.now c.args.g.now c.args.known.now = record { first = c.keeps_kinds.ensures; second = c.keeps_kinds-2.ensures; posed = c.requires.posed } in
    let anchor = c.anchor_of-anchor.result in
    let a = c.anchor_of-anchor.ensures in
    let value = c.value_at-value.result.now in
    let held = (known_held p anchor.end a.way.place value a.way.place_at c.value_at-value.ensures).1 in
    IfOk-weaker c.steps.result _ (λ (list : List Entry). (place : ℕ) → slice_get c.args.k.now c.args.index ≡ Some place → IsListAt c.args.f.now c.args.k.now c.args.g.now c.args.known.now place list)
    (λ list followed. list_anchored p c.args.index anchor.end anchor.steps anchor.rest.now value (value.power -ℤ anchor.steps) list a c.value_at-value.ensures refl
    (followed_as c.element.ensures.element c.requires.posed.shape (cone_is refl c.in_ok-cone.ensures c.in_ok-word.ensures) (told_once value.power anchor.steps held.few a.few) followed)) c.steps.ensures

pub returns-clause-cone : goal.returns-clause-cone
returns-clause-cone c =
    let p : ArePosed c.args.f.now c.args.k.now c.args.g.now c.args.known.now = record { first = c.keeps_kinds.ensures; second = c.keeps_kinds-2.ensures; posed = c.requires.posed } in
    let anchor = c.anchor_of-anchor.result in
    let a = c.anchor_of-anchor.ensures in
    let value = c.value_at-value.result.now in
    let held = (known_held p anchor.end a.way.place value a.way.place_at c.value_at-value.ensures).1 in
    IfOk-weaker c.steps.result _ (λ (list : List Entry). (other : Known) → slice_get c.args.known.now c.args.index ≡ Some (Some other) → other.power ≡ pos 0 → list ≡ cone_of other.word)
    (λ list followed. cone_anchored p c.args.index anchor.end anchor.steps anchor.rest.now value (value.power -ℤ anchor.steps) list a c.value_at-value.ensures refl
    (followed_as c.element.ensures.element c.requires.posed.shape (cone_is refl c.in_ok-cone.ensures c.in_ok-word.ensures) (told_once value.power anchor.steps held.few a.few) followed)) c.steps.ensures
