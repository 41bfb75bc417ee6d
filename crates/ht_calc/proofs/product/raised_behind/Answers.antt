use Rattle.std.proofs.Common.{inr}
use Rattle.ht_calc.proofs.TermLaws.{raised_next}
use Rattle.ht_calc.proofs.product.raised_behind.Goals as goal

pub returns-clause-next : goal.returns-clause-next
returns-clause-next c = λ term is.
    let raised = c.in_ok-power.ensures.power c.args.so_far.now.shape term is in
    raised_next c.args.so_far.now.shape c.args.so_far.now.rows term c.in_ok-power.power.rows c.product.result raised.1 c.product.ensures.product c.product.ensures.kept

pub returns-clause-large : goal.returns-clause-large
returns-clause-large c = λ term rows letters is large.
    let raised = c.in_ok-power.ensures.power c.args.so_far.now.shape term is in
    let followed = c.product.ensures.large rows letters large in
    inr (record { q = c.in_ok-power.power.rows; raised = raised.1; s = followed.0; product = followed.1; large = followed.2 })
