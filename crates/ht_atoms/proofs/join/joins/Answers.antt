use Rattle.std.proofs.Common.{◌∙◌, ap}
use Rattle.ht_quasi.specs.declared.quasi.Quasi.{Quasi}
use Rattle.ht_atoms.proofs.JoinLaws.{one_more_row, all_joined, joins_inside}
use Rattle.ht_atoms.proofs.join.joins.Goals as goal

pub loop-row-preserved : goal.loop-row-preserved
loop-row-preserved c =
    let t = c.args.t.now in
    one_more_row t.element.shape t.element.rows t.quasi.basis.words t.quasi.y c.as_slice-row-items.result.now c.loop-row.row-index c.row-item.result c.loop-row.joins c.add_join.new.joins
    (c.as_slice-row-items.ensures ∙ ap (λ (q : Quasi). q.y) c.quasi.ensures.quasi) c.loop-row-test.true c.row-item.is c.loop-row.invariant c.in_ok-add_join.ensures

pub returns-clause-joins : goal.returns-clause-joins
returns-clause-joins c =
    let t = c.args.t.now in
    all_joined t.element t.quasi t.kinds c.quasi.ensures.typed c.as_slice-row-items.result.now c.loop-row.row-index c.loop-row.joins (c.as_slice-row-items.ensures ∙ ap (λ (q : Quasi). q.y) c.quasi.ensures.quasi) c.loop-row-test.false c.loop-row.invariant

pub returns-clause-inside : goal.returns-clause-inside
returns-clause-inside c =
    let t = c.args.t.now in
    joins_inside t.element.shape t.element.rows t.quasi.basis.words c.loop-row.joins
    (all_joined t.element t.quasi t.kinds c.quasi.ensures.typed c.as_slice-row-items.result.now c.loop-row.row-index c.loop-row.joins (c.as_slice-row-items.ensures ∙ ap (λ (q : Quasi). q.y) c.quasi.ensures.quasi) c.loop-row-test.false c.loop-row.invariant)
