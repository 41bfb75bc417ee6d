use Rattle.std.proofs.Common.{◌∙◌, List, length, ap, arith}
use Rattle.ht_word.specs.declared.word.Word.{Word}
use Rattle.ht_quasi.specs.declared.quasi.Quasi.{Quasi}
use Rattle.ht_atoms.proofs.JoinLaws.{one_more_mark, all_marked}
use Rattle.ht_atoms.proofs.join.infinite_marks.Goals as goal

pub loop-place-preserved : goal.loop-place-preserved
loop-place-preserved c =
    let t = c.args.t.now in
    one_more_mark t.element.shape t.element.rows t.quasi.basis.words c.loop-place.place c.loop-place.marks.items c.push.new.self.items c.is_infinite.result c.loop-place.invariant c.is_infinite.ensures c.in_ok-push.ensures.items

pub returns : goal.returns
returns c =
    let t = c.args.t.now in
    let counted = c.len-place-end.ensures ∙ ap (λ (X : List Word). length X) (c.words.ensures.words ∙ ap (λ (q : Quasi). q.basis.words) c.quasi.ensures.quasi) in
    all_marked t.element.shape t.element.rows t.quasi.basis.words c.loop-place.place c.loop-place.marks.items (omega (arith, counted, c.loop-place-test.false, c.loop-place.auto.place-end)) c.loop-place.invariant
