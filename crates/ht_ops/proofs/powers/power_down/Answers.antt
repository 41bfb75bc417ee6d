use Rattle.std.proofs.lemmas.Result.{IfOk-weaker, on_ok_weaker}
use Rattle.ht_ops.proofs.PowerChains.{inverse_power, inverse_large, inverse_kept, inverse_alone}
use Rattle.ht_ops.proofs.powers.power_down.Goals as goal

pub returns-then-k-eq1-clause-kept : goal.returns-then-k-eq1-clause-kept
returns-then-k-eq1-clause-kept c =
    let base = c.in_ok-base in
    inverse_alone c.args.a.now.shape base.base.shape c.args.a.now.rows base.base.rows c.args.k c.if-k-eq1.true base.ensures.0 c.requires.element.canonical.pair base.ensures.1 c.keeps_limits.ensures

pub returns-clause-power : goal.returns-clause-power
returns-clause-power c =
    let base = c.in_ok-base in
    IfOk-weaker c.power_up.result _ _ (λ s. inverse_power c.args.a.now.shape base.base.shape c.args.a.now.rows base.base.rows c.args.k s base.ensures.0 c.requires.element.canonical.pair base.ensures.1)
    c.power_up.ensures.power

pub returns-clause-kept : goal.returns-clause-kept
returns-clause-kept c =
    let base = c.in_ok-base in
    on_ok_weaker c.power_up.result (inverse_kept c.args.a.now.shape base.base.shape c.args.a.now.rows base.base.rows c.args.k base.ensures.0 c.requires.element.canonical.pair base.ensures.1)
    c.power_up.ensures.kept

pub returns-clause-large : goal.returns-clause-large
returns-clause-large c = λ rows letters h.
    let base = c.in_ok-base in
    inverse_large c.args.a.now.shape base.base.shape c.args.a.now.rows base.base.rows c.args.k rows letters base.ensures.0 c.requires.element.canonical.pair base.ensures.1 (c.power_up.ensures.large rows letters h)
