use Rattle.std.proofs.Common.{◌≢◌, ℕ, ◌∷◌, [], ◌++◌, refl, sym, ◌∙◌, arith, vec_len, length-append, List, subst}
use Rattle.std.proofs.lemmas.Result.{on_ok_weaker}
use Rattle.std.proofs.lemmas.List.Elements.{All-append}
use Rattle.ht_calc.specs.Progress.{Calls, Answered}
use Rattle.ht_calc.proofs.Standing.{stands_line, no_bytes, none_begun}
use Rattle.ht_calc.proofs.lines.Reading.end_line.Goals as goal

pub returns-then-is_empty-clause-stands : goal.returns-then-is_empty-clause-stands
returns-then-is_empty-clause-stands g c = λ T O before was.
    let told = g.L.Library.files c.args.files.now in
    let mid : Calls = record { faults = g.L.Library.faults c.args.files.now; asked = g.L.Library.asked c.args.files.now } in
    let now : Calls = record { faults = g.L.Library.faults c.answer.new.files; asked = g.L.Library.asked c.answer.new.files } in
    let begun = c.args.self.now.begun.items in
    let all = O ++ c.answer.new.text.items in
    let none = no_bytes begun (vec_len c.args.self.now.begun) (omega (arith, c.args.self.now.begun.ok.0)) (sym c.is_empty.ensures ∙ c.if-is_empty.true) in
    on_ok_weaker {P = Answered told before now (was.lines ++ c.args.end.now ∷ []) c.answer.new.self all} c.answer.result
    (stands_line T (O ++ c.args.text.now.items) all told before mid now c.args.self.now (record { answering = c.answer.new.self; begun = c.args.self.now.begun }) c.args.end.now c.args.end.now
    c.requires.one_line (omega (arith, c.requires.short)) c.requires.few (none_begun begun c.args.end.now none) none was)
    (c.answer.ensures.answered was.lines O before was.answered)

pub returns-clause-stands : goal.returns-clause-stands
returns-clause-stands g c = λ T O before was.
    let told = g.L.Library.files c.args.files.now in
    let now : Calls = record { faults = g.L.Library.faults c.answer-2.new.files; asked = g.L.Library.asked c.answer-2.new.files } in
    let all = O ++ c.answer-2.new.text.items in
    let line = c.args.self.now.begun.items ++ c.args.end.now in
    let is = c.deref.ensures.value ∙ c.in_ok-extend_from_slice.ensures.items in
    let answered = subst (λ (l : List ℕ). Answered told before now (was.lines ++ l ∷ []) c.answer-2.new.self all) is (c.in_ok-answer.ensures.answered was.lines O before was.answered) in
    stands_line T (O ++ c.args.text.now.items) all told before (record { faults = g.L.Library.faults c.args.files.now; asked = g.L.Library.asked c.args.files.now }) now c.args.self.now (record { answering = c.answer-2.new.self; begun = c.clear.new.self }) c.args.end.now line
    (All-append (λ (b : ℕ). b ≢ 10) c.args.self.now.begun.items c.args.end.now c.requires.begun c.requires.one_line)
    (rw length-append c.requires.short) c.requires.few refl c.clear.ensures.items was answered
