use Rattle.std.proofs.Common.{◌≡◌, ◌≢◌, ℕ, ◌+◌, inl, inr, List, [], ◌∷◌, ◌++◌, length, refl, sym, ap, ◌∙◌, subst, append_assoc, append-nil, true≢false, arith}
use Rattle.std.specs.Prelude.{IfOk}
use Rattle.std.proofs.lemmas.List.Elements.{All-append}
use Rattle.ht_calc.specs.declared.lines.Reading.{Reading}
use Rattle.ht_calc.specs.declared.lines.Extent.TheVariants.{Within, Ended, TooLong}
use Rattle.ht_calc.specs.Progress.{Calls, Stands}
use Rattle.ht_calc.proofs.Standing.{line_over, no_room, no_bytes, one_less, ready_anew, stands_told}
use Rattle.ht_calc.proofs.lines.Reading.take.Goals as goal

pub returns-then-is_empty-clause-stands : goal.returns-then-is_empty-clause-stands
returns-then-is_empty-clause-stands g c = λ T O before was.
    let none = no_bytes c.args.bytes.now (length c.args.bytes.now) refl (sym c.is_empty.ensures ∙ c.if-is_empty.true) in
    let all : T ++ c.args.bytes.now ≡ T = ap (λ (b : List ℕ). T ++ b) none ∙ append-nil T in
    subst (λ (t : List ℕ). Stands Ended t (O ++ c.end.new.text.items) (g.L.Library.files c.args.files.now) before (record { faults = g.L.Library.faults c.end.new.files; asked = g.L.Library.asked c.end.new.files }) c.end.new.self)
    (sym all) (c.in_ok-end.ensures.stands T O before was)

pub returns-then-not-has_room-clause-stands : goal.returns-then-not-has_room-clause-stands
returns-then-not-has_room-clause-stands g c = λ T O before was.
    let held = c.lines.invariant.stands T O before was in
    let told = g.L.Library.files c.args.files.now in
    let now : Calls = record { faults = g.L.Library.faults c.lines.files; asked = g.L.Library.asked c.lines.files } in
    let over = line_over held.0 (O ++ c.lines.text.items) told before now c.lines.self c.in-Some.end.now c.in-Some.after.now
    (All-append (λ (b : ℕ). b ≢ 10) c.lines.self.begun.items c.in-Some.end.now c.lines.invariant.ready.one_line c.in-Some.ensures.0)
    (no_room c.lines.self.answering.lines _ _ c.lines.invariant.ready.few (λ room. true≢false (sym (c.if-not-has_room.ensures.1 room))))
    held.2 in
    subst (λ (t : List ℕ). Stands TooLong t (O ++ c.lines.text.items) told before now c.lines.self)
    (ap (λ (r : List ℕ). held.0 ++ r) (sym c.in-Some.ensures.1) ∙ held.1) over

pub returns-in_err-end_line-clause-asked : goal.returns-in_err-end_line-clause-asked
returns-in_err-end_line-clause-asked g c =
    let few = c.lines.invariant.few in
    let one = All-append (λ (b : ℕ). b ≢ 10) c.lines.self.begun.items c.in-Some.end.now c.lines.invariant.ready.one_line c.in-Some.ensures.0 in
    let less = one_less few.0 _ c.lines.self.begun.items [] c.in-Some.end.now c.in-Some.after.now c.lines.rest.now one c.in-Some.ensures.1 refl few.2 in
    (omega (arith, c.end_line.ensures.asked, c.lines.invariant.asked), omega (arith, c.end_line.ensures.asked, few.1, less))

pub lines-preserved : goal.lines-preserved
lines-preserved g c =
    let room = c.if-not-has_room.ensures.0 refl in
    let end = c.in-Some.end.now in
    let after = c.in-Some.after.now in record {
      stands = λ T O before was.
          let held = c.lines.invariant.stands T O before was in
          let told = g.L.Library.files c.args.files.now in
          let here = stands_told Within held.0 (O ++ c.lines.text.items) told (g.L.Library.files c.lines.files) before (record { faults = g.L.Library.faults c.lines.files; asked = g.L.Library.asked c.lines.files }) c.lines.self (sym c.lines.invariant.files) held.2 in
          let next = c.in_ok-end_line.ensures.stands held.0 O before here in (
            held.0 ++ (end ++ 10 ∷ []),
            append_assoc held.0 (end ++ 10 ∷ []) after ∙ ap (λ (r : List ℕ). held.0 ++ r) (append_assoc end (10 ∷ []) after ∙ sym c.in-Some.ensures.1) ∙ held.1,
            stands_told Within _ _ (g.L.Library.files c.lines.files) told before _ _ c.lines.invariant.files next,
          );
      ready = ready_anew c.end_line.new.self c.in_ok-end_line.ensures.begun (omega (arith, room.0, c.in_ok-end_line.ensures.count));
      on = inl (elim c.lines.invariant.on [
        | inl more ↦ omega (arith, more, c.in_ok-end_line.ensures.count)
        | inr same ↦ let lines = ap (λ (r : Reading). r.answering.lines) same.0 in omega (arith, lines, c.in_ok-end_line.ensures.count)
      ]);
      files = c.in_ok-end_line.ensures.files ∙ c.lines.invariant.files;
      later = omega (arith, c.in_ok-end_line.ensures.later, c.lines.invariant.later);
      asked = omega (arith, c.in_ok-end_line.ensures.asked, c.lines.invariant.asked);
      few = (
        c.lines.invariant.few.0 + 1,
        omega (arith, c.in_ok-end_line.ensures.asked, c.lines.invariant.few.1),
        one_less c.lines.invariant.few.0 _ c.lines.self.begun.items c.end_line.new.self.begun.items end after c.lines.rest.now
            (All-append (λ (b : ℕ). b ≢ 10) c.lines.self.begun.items end c.lines.invariant.ready.one_line c.in-Some.ensures.0) c.in-Some.ensures.1 c.in_ok-end_line.ensures.begun c.lines.invariant.few.2,
      );
    }

pub returns-clause-stands : goal.returns-clause-stands
returns-clause-stands g c = λ T O before was.
    let held = c.lines.invariant.stands T O before was in
    let told = g.L.Library.files c.args.files.now in
    let now : Calls = record { faults = g.L.Library.faults c.lines.files; asked = g.L.Library.asked c.lines.files } in
    subst (λ (t : List ℕ). IfOk c.begin.result (λ extent. Stands extent t (O ++ c.lines.text.items) told before now c.begin.new.self))
    held.1 (c.begin.ensures.stands held.0 (O ++ c.lines.text.items) told before now held.2)
