use Rattle.std.proofs.Common.{◌≢◌, ℕ, refl, sym, ◌∙◌, length, true≢false}
use Rattle.std.proofs.lemmas.List.Elements.{All-append}
use Rattle.ht_calc.proofs.Standing.{begun_over, no_room, some_bytes}
use Rattle.ht_calc.proofs.lines.Reading.begin.Goals as goal

pub returns-then-not-has_room-clause-stands : goal.returns-then-not-has_room-clause-stands
returns-then-not-has_room-clause-stands c = λ T O files before now was.
    begun_over T O files before now c.args.self.now c.args.bytes.now
    (All-append (λ (b : ℕ). b ≢ 10) c.args.self.now.begun.items c.args.bytes.now c.requires.ready.one_line c.requires.one_line)
    (some_bytes c.args.bytes.now (length c.args.bytes.now) refl (sym c.is_empty.ensures ∙ c.if-is_empty.false))
    (no_room c.args.self.now.answering.lines _ _ c.requires.ready.few (λ room. true≢false (sym (c.if-not-has_room.ensures.1 room))))
    was
