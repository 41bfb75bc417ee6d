use Rattle.std.proofs.Common.{◌≡◌, ◌∙◌, ℕ, List, Option, None, Some, replicate, take, drop, ◌++◌, slice_get, slice_set, sym, ap, arith, pos, length}
use Rattle.std.proofs.lemmas.Result.{IfOk-weaker}
use Rattle.ht_pair.specs.Images.{Entry}
use Rattle.ht_pair.proofs.ValueListLaws.{cone_of}
use Rattle.ht_local.specs.declared.known.Known.{Known}
use Rattle.ht_local.proofs.SlotLaws.{length-copies, length-slice_set, no_slots, set_here, slot_set, written_back}
use Rattle.ht_local.proofs.values.values_of.Goals as goal

-- the slots once the seed is put
put_is : (slots put now : List (Option (List Entry))) (at n : ℕ) (seed : List Entry) → n ≡ length slots → put ≡ slice_set slots at (Some seed) → now ≡ take n (put ++ drop (length put) slots) → now ≡ slice_set slots at (Some seed)
put_is slots put now at n seed len set e =
    e ∙ written_back put slots n (len ∙ sym (length-slice_set slots at (Some seed)) ∙ sym (ap (λ (s : List (Option (List Entry))). length s) set)) ∙ set

pub fill_all-requires-clause-lists : goal.fill_all-requires-clause-lists
fill_all-requires-clause-lists c =
    let slots = c.in_ok-slots.slots.items in
    let seed = c.in_ok-seed.seed in
    let none : slots ≡ replicate (length c.args.k.now) None = c.in_ok-slots.ensures ∙ ap (λ (n : ℕ). replicate n None) c.len.ensures in
    let len : c.in_ok-slots.slots.len ≡ length slots = c.in_ok-slots.slots.ok.0 in
    slot_set slots c.deref_mut-2.result.now c.args.start seed (no_slots slots none) c.in_ok-seed.ensures.list
    (put_is slots c.put.new.lists c.deref_mut-2.result.now c.args.start c.in_ok-slots.slots.len seed len (c.put.ensures ∙ ap (λ (s : List (Option (List Entry))). slice_set s c.args.start (Some seed)) c.deref_mut.ensures.value) c.deref_mut-2.ensures.value)

pub returns-clause-cone : goal.returns-clause-cone
returns-clause-cone c =
    let slots = c.in_ok-slots.slots.items in
    let seed = c.in_ok-seed.seed in
    let len : c.in_ok-slots.slots.len ≡ length slots = c.in_ok-slots.slots.ok.0 in
    let many : length slots ≡ length c.args.k.now = ap (λ (s : List (Option (List Entry))). length s) c.in_ok-slots.ensures ∙ length-copies c.len.result None ∙ c.len.ensures in
    let set : c.deref_mut-2.result.now ≡ slice_set slots c.args.start (Some seed) = put_is slots c.put.new.lists c.deref_mut-2.result.now c.args.start c.in_ok-slots.slots.len seed len (c.put.ensures ∙ ap (λ (s : List (Option (List Entry))). slice_set s c.args.start (Some seed)) c.deref_mut.ensures.value) c.deref_mut-2.ensures.value in
    let here : slice_get c.deref_mut-2.result.now c.args.start ≡ Some (Some seed) = ap (λ (s : List (Option (List Entry))). slice_get s c.args.start) set ∙ set_here slots c.args.start (Some seed) (let l = c.requires.start in omega arith) in
    let there : slice_get c.fill_all.new.lists c.args.start ≡ Some (Some seed) = c.in_ok-fill_all.ensures.keeps c.args.start seed here in
    IfOk-weaker c.all_settled.result _ (λ (lists : List (List Entry)). (value : Known) → slice_get c.args.known.now c.args.start ≡ Some (Some value) → value.power ≡ pos 0 → slice_get lists c.args.start ≡ Some (cone_of value.word))
    (λ lists same value e zero. same c.args.start seed (ap (λ (s : List (Option (List Entry))). slice_get s c.args.start) (written_back c.fill_all.new.lists _ c.in_ok-slots.slots.len (len ∙ many ∙ sym c.in_ok-fill_all.ensures.lists.as_many)) ∙ there) ∙ ap (λ (L : List Entry). Some L) (c.in_ok-seed.ensures.cone value e zero))
    c.all_settled.ensures.same
