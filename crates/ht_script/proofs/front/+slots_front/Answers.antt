use Rattle.std.proofs.Common.{◌≡◌, length, arith, inl, inr}
use Rattle.std.proofs.lemmas.Bool.Decides.{nat_tests}
use Rattle.std.proofs.lemmas.List.{nil_from_length}
use Rattle.ht_script.proofs.SpacedFronts.{longest_in_token, longest_past_token, longest_spaces}
use Rattle.ht_script.proofs.CommandLaws.{SlotFits, slot_tokens, slot_takes_space, some_fits, longest_slot, longest_later, longest_no_slots, by_first_slot}
use Rattle.ht_script.proofs.front.+slots_front.Goals as goal

pub returns-in_default : goal.returns-in_default
returns-in_default t c = longest_no_slots c.args.ending c.args.slots.now c.args.bytes.now c.front.result c.in_default.ensures.cases c.front.ensures

pub returns-in_default-first_token : goal.returns-in_default-first_token
returns-in_default-first_token t c =
    let slot = c.in-Some.slot.now in
    let later = c.in-Some.later.now in
    let some = some_fits c.args.ending slot later in
    by_first_slot c.args.ending c.args.slots.now slot later c.args.bytes.now (length c.args.bytes.now) c.in-Some.ensures.cases.0
    (longest_spaces (SlotFits c.args.ending slot later) c.args.bytes.now some.0 (slot_takes_space c.args.ending slot later) some.1 c.in_default-first_token.ensures)

pub returns-then-is_empty : goal.returns-then-is_empty
returns-then-is_empty t c =
    let slot = c.in-Some.slot.now in
    let later = c.in-Some.later.now in
    let found = c.in-Some-first_token in
    let none : length found.rest.now ≡ 0 = grind (arith, nat_tests) in
    by_first_slot c.args.ending c.args.slots.now slot later c.args.bytes.now _ c.in-Some.ensures.cases.0
    (longest_in_token (SlotFits c.args.ending slot later) c.args.bytes.now found.at found.token.now found.rest.now c.front-then-is_empty.result (slot_tokens c.args.ending slot later) (slot_takes_space c.args.ending slot later) found.ensures
    (inl (nil_from_length found.rest.now none)) (longest_slot c.args.ending slot later found.token.now c.front-then-is_empty.result c.front-then-is_empty.ensures))

pub returns-then-not-holds : goal.returns-then-not-holds
returns-then-not-holds t c =
    let slot = c.in-Some.slot.now in
    let later = c.in-Some.later.now in
    let found = c.in-Some-first_token in
    by_first_slot c.args.ending c.args.slots.now slot later c.args.bytes.now _ c.in-Some.ensures.cases.0
    (longest_in_token (SlotFits c.args.ending slot later) c.args.bytes.now found.at found.token.now found.rest.now c.front-then-not-holds.result (slot_tokens c.args.ending slot later) (slot_takes_space c.args.ending slot later)
    found.ensures (inr (λ f. let yes = c.holds.ensures.1 f.1.0 in cc)) (longest_slot c.args.ending slot later found.token.now c.front-then-not-holds.result c.front-then-not-holds.ensures))

pub returns : goal.returns
returns t c =
    let slot = c.in-Some.slot.now in
    let later = c.in-Some.later.now in
    let found = c.in-Some-first_token in
    by_first_slot c.args.ending c.args.slots.now slot later c.args.bytes.now _ c.in-Some.ensures.cases.0
    (longest_past_token (SlotFits c.args.ending slot later) c.args.bytes.now found.at found.token.now found.rest.now c.slots_front-behind.result (slot_tokens c.args.ending slot later) (slot_takes_space c.args.ending slot later)
    found.ensures (longest_later c.args.ending slot later found.token.now found.rest.now c.slots_front-behind.result (c.holds.ensures.0 c.if-not-holds.false) c.slots_front-behind.ensures))
