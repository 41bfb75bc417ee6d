use Rattle.std.proofs.Common.{arith, subst, true≢false, sym}
use Rattle.std.proofs.lemmas.List.{take_all}
use Rattle.std.proofs.lemmas.List.Elements.{All-more}
use Rattle.ht_pair.specs.RowsFaults.{IsRowOf, AreRowsOf}
use Rattle.ht_pair.proofs.Sorting.{first_foreign_at}
use Rattle.ht_pair.proofs.pair.first_foreign.Goals as goal

pub returns-then-not-is_row_of : goal.returns-then-not-is_row_of
returns-then-not-is_row_of c =
    first_foreign_at c.args.shape c.args.rows.now c.loop-index.index c.index-rows-index.result c.loop-index-test.true c.index-rows-index.is c.loop-index.invariant
    (λ h. true≢false (sym (c.if-not-is_row_of.ensures.1 h)))

pub loop-index-preserved : goal.loop-index-preserved
loop-index-preserved c =
    All-more (IsRowOf c.args.shape) c.args.rows.now c.loop-index.index c.index-rows-index.result c.loop-index-test.true c.loop-index.invariant
    (subst (IsRowOf c.args.shape) c.index-rows-index.is (c.is_row_of.ensures.0 c.if-not-is_row_of.false))

pub returns : goal.returns
returns c = subst (AreRowsOf c.args.shape) (take_all c.loop-index.index c.args.rows.now (omega arith)) c.loop-index.invariant
