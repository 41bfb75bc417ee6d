use Rattle.std.proofs.Common.{◌<◌, List, length, sym, subst, arith}
use Rattle.std.proofs.lemmas.Option.{slice_get_within}
use Rattle.ht_word.specs.declared.word.Word.{Word}
use Rattle.ht_quasi.proofs.StepLaws.{splits_unmoved, splits_outside, goes_to, goes_below}
use Rattle.ht_quasi.proofs.step.step_of.Goals as goal

pub returns-in_default : goal.returns-in_default
returns-in_default c = splits_unmoved c.args.a.now.shape c.args.a.now.rows c.keeps_limits.ensures.canonical c.args.basis.now.words c.args.word.now (rw c.in_default.is at c.in_ok-moved.ensures)

pub returns-in_default-find : goal.returns-in_default-find
returns-in_default-find c =
    splits_outside c.args.a.now.shape c.args.a.now.rows c.keeps_limits.ensures.canonical c.args.basis.now.words c.args.word.now c.in-Some.moved c.requires (rw c.in-Some.is at c.in_ok-moved.ensures) c.in_default-find.ensures

pub at-requires : goal.at-requires
at-requires c =
    let here = c.in-Some-find.ensures in
    subst (λ (t : List Word). c.in-Some-find.place < length t) (sym c.words.ensures.words) (slice_get_within c.args.basis.now.words c.in-Some-find.place here.word here.here)

pub returns-then-len : goal.returns-then-len
returns-then-len c =
    goes_to c.args.a.now.shape c.args.a.now.rows c.keeps_limits.ensures.canonical c.args.basis.now.words c.words.result.now c.args.word.now c.in-Some.moved c.at.result.now c.in-Some-find.place c.requires
    (rw c.in-Some.is at c.in_ok-moved.ensures) c.in-Some-find.ensures c.words.ensures.words c.at.ensures (omega (arith, c.if-len.true, c.len.ensures, c.len-2.ensures))

pub returns : goal.returns
returns c =
    goes_below c.args.a.now.shape c.args.a.now.rows c.keeps_limits.ensures.canonical c.args.basis.now.words c.words.result.now c.args.word.now c.in-Some.moved c.at.result.now c.in-Some-find.place c.requires
    (rw c.in-Some.is at c.in_ok-moved.ensures) c.in-Some-find.ensures c.words.ensures.words c.at.ensures (λ e. c.if-len.false (omega (arith, e, c.len.ensures, c.len-2.ensures)))
