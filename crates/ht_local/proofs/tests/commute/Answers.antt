use Rattle.std.proofs.Common.{◌<◌, sym, ◌∙◌, refl, arith, below_more}
use Rattle.std.proofs.lemmas.Bool.{false≢true}
use Rattle.std.proofs.lemmas.Option.{slice_get_within}
use Rattle.ht_pair.specs.declared.row.Row.{Row}
use Rattle.ht_local.specs.PlacedLists.{AgreesAlong, IsStepBelow, rows_at}
use Rattle.ht_local.proofs.tests.commute.Goals as goal

pub returns-then-not-branch : goal.returns-then-not-branch
returns-then-not-branch c =
    ((λ yes. absurd (false≢true yes)), (λ all. absurd (false≢true (sym c.if-not-branch.true ∙ c.in_ok-agrees_below.ensures.1 (λ row step. all row c.loop-index.index step)))))

pub loop-index-preserved : goal.loop-index-preserved
loop-index-preserved c =
    below_more (λ i. (row : Row) → IsStepBelow c.args.f.now c.args.k.now i row → AgreesAlong c.args.f.now.element.shape (rows_at c.args.f.now.quasi.basis.words c.args.k.now c.args.lists.now) c.args.g.now.element.rows row) c.loop-index.index
    c.loop-index.invariant (c.in_ok-agrees_below.ensures.0 c.if-not-branch.false)

pub returns : goal.returns
returns c = (
  (λ yes row index step.
      let l : index < c.loop-index.index = let m = slice_get_within c.args.k.now index step.place step.place_at in omega arith in
      c.loop-index.invariant index l row step),
  (λ all. refl),
)
