use Rattle.std.proofs.Common.{◌≡◌, ◌++◌, ℕ, List, [], ◌∷◌, Option, Some, slice_get, length, refl, subst, sym, ap, ◌∙◌, rules}
use Rattle.std.proofs.lemmas.List.{map-id}
use Rattle.std.proofs.lemmas.Iterator.Adapters.{YieldsList-from_vec}
use Rattle.std.proofs.lemmas.Iterator.Consumers.{YieldsList-turn, YieldsList-end}
use Rattle.std.proofs.lemmas.Option.{slice_get_read}
use Rattle.ht_pair.specs.Images.{Entry}
use Rattle.ht_local.specs.PlacedLists.{IsListAt}
use Rattle.ht_local.proofs.SlotLaws.{AreSettled, one_settled}
use Rattle.ht_local.proofs.values.all_settled.Goals as goal

pub settled-requires-clause-slot : goal.settled-requires-clause-slot
settled-requires-clause-slot c = λ L place e at.
    let turn = YieldsList-turn (YieldsList-from_vec c.args.slots.items (search rules) (search rules)) c.loop-slot.yielded _ c.loop-slot.yielded_by _ c.next.new.self c.in-Some.slot c.in-Some.is c.next.ensures.steps in
    let index = c.len.ensures ∙ c.loop-slot.invariant.as_many in
    let there = slice_get_read c.args.slots.items (length c.args.slots.items) (length c.loop-slot.yielded) c.in-Some.slot refl turn.0 turn.1 in
    c.requires.slots.each c.len.result place L at (subst (λ i. slice_get c.args.slots.items i ≡ Some (Some L)) (sym index) (there ∙ ap Some e))

pub loop-slot-preserved : goal.loop-slot-preserved
loop-slot-preserved c =
    let made = c.in_ok-list.list in
    let there : (place : ℕ) → slice_get c.args.k.now (length c.loop-slot.lists) ≡ Some place → IsListAt c.args.f.now c.args.k.now c.args.g.now c.args.known.now place made = λ place at.
    c.in_ok-list.ensures.list place (ap (λ i. slice_get c.args.k.now i) c.len.ensures ∙ at) in
    subst (AreSettled c.args.f.now c.args.k.now c.args.g.now c.args.known.now (c.loop-slot.yielded ++ c.in-Some.slot ∷ [])) (sym c.in_ok-push.ensures.ok)
    (one_settled c.loop-slot.yielded c.loop-slot.lists c.in-Some.slot made c.loop-slot.invariant there c.in_ok-list.ensures.same)

pub returns-clause-lists : goal.returns-clause-lists
returns-clause-lists c =
    let end = YieldsList-end (YieldsList-from_vec c.args.slots.items (search rules) (search rules)) c.loop-slot.yielded _ c.loop-slot.yielded_by _ c.next.new.self c.in-None.is c.next.ensures.steps in
    let is : c.args.slots.items ≡ c.loop-slot.yielded = sym end.0 ∙ map-id c.loop-slot.yielded in
    record {
      as_many = c.loop-slot.invariant.as_many ∙ ap (λ (s : List (Option (List Entry))). length s) (sym is) ∙ c.requires.slots.as_many;
      each = c.loop-slot.invariant.each;
    }

pub returns-clause-same : goal.returns-clause-same
returns-clause-same c = λ i L e.
    let end = YieldsList-end (YieldsList-from_vec c.args.slots.items (search rules) (search rules)) c.loop-slot.yielded _ c.loop-slot.yielded_by _ c.next.new.self c.in-None.is c.next.ensures.steps in
    let is : c.args.slots.items ≡ c.loop-slot.yielded = sym end.0 ∙ map-id c.loop-slot.yielded in
    c.loop-slot.invariant.same i L (sym (ap (λ (s : List (Option (List Entry))). slice_get s i) is) ∙ e)
