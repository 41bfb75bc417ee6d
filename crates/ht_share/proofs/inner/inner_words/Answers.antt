use Rattle.std.proofs.Common.{◌∙◌, sym, ap, subst, arith}
use Rattle.std.proofs.lemmas.List.{take_all}
use Rattle.ht_word.specs.Words.{IsUnderSome}
use Rattle.ht_quasi.specs.declared.quasi.Quasi.{Quasi}
use Rattle.ht_share.specs.InnerWords.{AreAbove}
use Rattle.ht_share.proofs.InnerLaws.{AreAboveRows, row_under, found_next, found_inner}
use Rattle.ht_share.proofs.inner.inner_words.Goals as goal

pub add_above-requires : goal.add_above-requires
add_above-requires c =
    let t = c.args.t.now in
    let rows = c.as_slice-row-items.ensures ∙ ap (λ (q : Quasi). q.y) c.quasi.ensures.quasi in
    subst (λ (q : Quasi). IsUnderSome c.row-item.result.from q.basis.words) (sym c.quasi-in-loop-row.ensures.quasi)
    (row_under t.element.shape t.element.rows t.quasi.basis.words t.quasi.y c.keeps_kinds.ensures.quasinormal.rows c.as_slice-row-items.result.now rows c.loop-row.row-index c.row-item.result c.loop-row-test.true c.row-item.is)

pub loop-row-preserved : goal.loop-row-preserved
loop-row-preserved c =
    let t = c.args.t.now in
    let rows = c.as_slice-row-items.ensures ∙ ap (λ (q : Quasi). q.y) c.quasi.ensures.quasi in
    let added = c.in_ok-add_above.ensures in
    found_next t.element.shape t.element.rows t.quasi.basis.words t.quasi.y c.keeps_kinds.ensures.quasinormal.rows c.as_slice-row-items.result.now rows c.loop-row.row-index c.row-item.result c.loop-row-test.true c.row-item.is
    c.loop-row.inner c.add_above.new.inner added.0 (subst (λ (q : Quasi). AreAbove q.basis.words c.row-item.result.from added.0) c.quasi-in-loop-row.ensures.quasi added.1) added.2 c.loop-row.invariant

pub returns : goal.returns
returns c =
    let t = c.args.t.now in
    let rows = c.as_slice-row-items.ensures ∙ ap (λ (q : Quasi). q.y) c.quasi.ensures.quasi in
    found_inner t.element.shape t.element.rows t.quasi.basis.words t.quasi.y c.loop-row.inner c.keeps_kinds.ensures.quasinormal.rows
    (subst (λ y. AreAboveRows t.quasi.basis.words y c.loop-row.inner) (take_all c.loop-row.row-index c.as_slice-row-items.result.now (omega arith) ∙ rows) c.loop-row.invariant)
