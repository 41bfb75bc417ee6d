use Rattle.std.proofs.Common.{◌≤◌, List, length, ap, arith}
use Rattle.ht_word.specs.declared.word.Word.{Word}
use Rattle.ht_quasi.specs.declared.quasi.Quasi.{Quasi}
use Rattle.ht_cycles.proofs.PickedLaws.{all_picked}
use Rattle.ht_cycles.proofs.representatives.representatives.Goals as goal

pub returns : goal.returns
returns c =
    let t = c.args.t.now in
    let far : length t.quasi.basis.words ≤ c.loop-place.place = omega (arith, c.loop-place-test.false, c.len-count.ensures, ap (λ (W : List Word). length W) c.words.ensures.words, ap (λ (q : Quasi). length q.basis.words) c.quasi.ensures.quasi) in
    all_picked t.element.shape t.element.rows c.keeps_kinds.ensures.canonical.canonical.pair t.quasi.basis.words c.loop-place.place c.loop-place.marks.items c.loop-place.groups.items far c.loop-place.invariant
