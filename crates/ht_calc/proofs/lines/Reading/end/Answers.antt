use Rattle.std.proofs.Common.{◌∷◌, [], ◌++◌, sym, ◌∙◌, arith, vec_len}
use Rattle.std.proofs.lemmas.Result.{on_ok_weaker}
use Rattle.ht_calc.specs.Progress.{Calls, Answered}
use Rattle.ht_calc.proofs.Standing.{stands_ended, stands_last, no_bytes, some_bytes}
use Rattle.ht_calc.proofs.lines.Reading.end.Goals as goal

pub returns-then-is_empty-clause-stands : goal.returns-then-is_empty-clause-stands
returns-then-is_empty-clause-stands g c = λ T O before was.
    stands_ended T _ _ before _ c.args.self.now
    (no_bytes c.args.self.now.begun.items (vec_len c.args.self.now.begun) (omega (arith, c.args.self.now.begun.ok.0)) (sym c.is_empty.ensures ∙ c.if-is_empty.true))
    was

pub returns-clause-stands : goal.returns-clause-stands
returns-clause-stands g c = λ T O before was.
    let told = g.L.Library.files c.args.files.now in
    let mid : Calls = record { faults = g.L.Library.faults c.args.files.now; asked = g.L.Library.asked c.args.files.now } in
    let now : Calls = record { faults = g.L.Library.faults c.answer.new.files; asked = g.L.Library.asked c.answer.new.files } in
    let begun = c.args.self.now.begun.items in
    let all = O ++ c.answer.new.text.items in
    let some = some_bytes begun (vec_len c.args.self.now.begun) (omega (arith, c.args.self.now.begun.ok.0)) (sym c.is_empty.ensures ∙ c.if-is_empty.false) in
    on_ok_weaker {P = Answered told before now (was.lines ++ begun ∷ []) c.answer.new.self all} c.answer.result
    (stands_last T (O ++ c.args.text.now.items) all told before mid now c.args.self.now (record { answering = c.answer.new.self; begun = c.args.self.now.begun })
    some c.requires.one_line c.requires.short (c.requires.room some) was)
    (rw (← c.deref.ensures.value) (c.answer.ensures.answered was.lines O before was.answered))
