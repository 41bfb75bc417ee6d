use Rattle.std.proofs.Common.{◌≡◌, ◌/◌, arith, ap, subst, pos, Err}
use Rattle.std.proofs.lemmas.Result.{err_from_is_err_and, on_ok_weaker}
use Rattle.ht_pair.specs.Products.{IsPower}
use Rattle.ht_pair.specs.declared.fault.OpFault.TheVariants as op_fault
use Rattle.ht_pair.proofs.PowerLaws.{first_power}
use Rattle.ht_ops.proofs.PowerChains.{one_kept, half_large, step_large, step_kept}
use Rattle.ht_ops.proofs.powers.+power_up.Goals as goal

pub power_over-requires-clause-half : goal.power_over-requires-clause-half
power_over-requires-clause-half t c =
    let one : 1 ≡ c.args.k / 2 = omega (arith, c.requires.low, c.if-k-lt4.true) in
    subst (λ j. IsPower c.args.a.now.shape c.args.a.now.rows (pos j) c.args.a.now.rows) one (first_power c.args.a.now.shape c.args.a.now.rows c.requires.element.canonical.pair)

pub returns-then-k-lt4-clause-kept : goal.returns-then-k-lt4-clause-kept
returns-then-k-lt4-clause-kept t c =
    on_ok_weaker c.power_over.result
    (step_kept c.args.a.now.shape c.args.a.now.rows c.args.k c.requires.low (one_kept c.args.a.now.shape c.args.a.now.rows (c.args.k / 2) (omega (arith, c.requires.low, c.if-k-lt4.true)) c.requires.element))
    c.power_over.ensures.kept

pub returns-then-k-lt4-clause-large : goal.returns-then-k-lt4-clause-large
returns-then-k-lt4-clause-large t c = λ rows letters h.
    step_large c.args.a.now.shape c.args.a.now.rows c.args.k rows letters c.requires.low c.requires.element.canonical.pair
    (one_kept c.args.a.now.shape c.args.a.now.rows (c.args.k / 2) (omega (arith, c.requires.low, c.if-k-lt4.true)) c.requires.element) (c.power_over.ensures.large rows letters h)

pub returns-in_err-half-clause-large : goal.returns-in_err-half-clause-large
returns-in_err-half-clause-large t c = λ rows letters h.
    let p = err_from_is_err_and c.from_residual.result c.from_residual.ensures.1 in
    let same : c.in_err-half.field-0.0 ≡ op_fault.Large rows letters = cc (p.1, p.2, h) in
    half_large c.args.a.now.shape c.args.a.now.rows c.args.k rows letters c.requires.low (c.in_err-half.ensures.large rows letters (ap Err same))

pub returns-clause-kept : goal.returns-clause-kept
returns-clause-kept t c = on_ok_weaker c.power_over-2.result (step_kept c.args.a.now.shape c.args.a.now.rows c.args.k c.requires.low c.in_ok-half.ensures.kept) c.power_over-2.ensures.kept

pub returns-clause-large : goal.returns-clause-large
returns-clause-large t c = λ rows letters h.
    step_large c.args.a.now.shape c.args.a.now.rows c.args.k rows letters c.requires.low c.requires.element.canonical.pair c.in_ok-half.ensures.kept (c.power_over-2.ensures.large rows letters h)
