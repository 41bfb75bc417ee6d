use Rattle.std.proofs.Common.{inl, inr, sym, ◌∙◌, true≢false}
use Rattle.ht_calc.proofs.NameLaws.{same_room}
use Rattle.ht_calc.proofs.bindings.Bindings.has_room_for_both.Goals as goal

pub returns-then-is_bound_behind : goal.returns-then-is_bound_behind
returns-then-is_bound_behind c =
    let first = (same_room c.args.self.now c.args.first.now).1 (c.has_room.ensures.0 c.if-has_room.true) in
    ((λ yes. (first, (inl (c.is_bound_behind.ensures.0 yes), tt))), (λ room. c.if-is_bound_behind.true))

pub returns-else-is_bound_behind : goal.returns-else-is_bound_behind
returns-else-is_bound_behind c =
    let first = (same_room c.args.self.now c.args.first.now).1 (c.has_room.ensures.0 c.if-has_room.true) in (
      (λ yes. (first, (inr (c.is_room_left.ensures.0 yes), tt))),
      (λ room. elim room.1.0 [
        | inl there ↦ absurd (true≢false (sym (c.is_bound_behind.ensures.1 there) ∙ c.if-is_bound_behind.false))
        | inr left ↦ c.is_room_left.ensures.1 left
      ]),
    )

pub returns-else-has_room : goal.returns-else-has_room
returns-else-has_room c =
    ((λ yes. absurd (true≢false (sym yes ∙ c.if-has_room.false))), (λ room. c.has_room.ensures.1 ((same_room c.args.self.now c.args.first.now).0 room.0)))
