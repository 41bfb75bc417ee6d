use Rattle.std.proofs.Common.{sym, ◌∙◌, subst, refl, All, List, take, ◌≡◌}
use Rattle.std.proofs.lemmas.Bool.{false≢true}
use Rattle.std.proofs.lemmas.List.{take_all}
use Rattle.std.proofs.lemmas.List.Elements.{All-contains, All-more}
use Rattle.ht_pair.specs.declared.row.Row.{Row}
use Rattle.ht_local.specs.PlacedLists.{AgreesAlong, rows_at}
use Rattle.ht_local.proofs.tests.agrees_below.Goals as goal

pub agrees_along-requires-clause-row : goal.agrees_along-requires-clause-row
agrees_along-requires-clause-row c = (c.steps_below-row-items.ensures c.row-item.result).0 (c.loop-row.row-index, c.loop-row-test.true, sym c.row-item.is)

pub returns-then-not-branch : goal.returns-then-not-branch
returns-then-not-branch c =
    let step = (c.steps_below-row-items.ensures c.row-item.result).0 (c.loop-row.row-index, c.loop-row-test.true, sym c.row-item.is) in
    ((λ yes. absurd (false≢true yes)), (λ all. absurd (false≢true (sym c.if-not-branch.true ∙ c.in_ok-agrees_along.ensures.1 (all c.row-item.result step)))))

pub loop-row-preserved : goal.loop-row-preserved
loop-row-preserved c =
    let rows = c.steps_below-row-items.result.now in
    let row = c.row-item.result in
    let Agrees = AgreesAlong c.args.f.now.element.shape (rows_at c.args.f.now.quasi.basis.words c.args.k.now c.args.lists.now) c.args.g.now.element.rows in
    let yes = c.in_ok-agrees_along.ensures.0 c.if-not-branch.false in
    All-more Agrees rows c.loop-row.row-index row c.loop-row-test.true c.loop-row.invariant (subst Agrees c.row-item.is yes)

pub returns : goal.returns
returns c =
    let rows = c.steps_below-row-items.result.now in
    let Agrees = AgreesAlong c.args.f.now.element.shape (rows_at c.args.f.now.quasi.basis.words c.args.k.now c.args.lists.now) c.args.g.now.element.rows in
    let whole : take c.loop-row.row-index rows ≡ rows = take_all c.loop-row.row-index rows c.loop-row-test.false in
    ((λ yes row step. All-contains Agrees rows row (subst (λ (xs : List Row). All Agrees xs) whole c.loop-row.invariant) ((c.steps_below-row-items.ensures row).1 step)), (λ all. refl))
