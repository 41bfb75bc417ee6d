use Rattle.std.proofs.Common.{◌≡◌, ◌∙◌, ◌*◌, ◌+◌, ◌/◌, ◌%◌, ap, sym, subst, arith, pos, Err}
use Rattle.std.proofs.lemmas.Result.{err_from_is_err_and, IfOk-weaker, on_ok_weaker}
use Rattle.ht_pair.specs.Products.{IsPower}
use Rattle.ht_pair.specs.declared.fault.OpFault.TheVariants as op_fault
use Rattle.ht_ops.proofs.PowerChains.{square_large, square_power, even_kept, odd_power, odd_large, odd_kept}
use Rattle.ht_ops.proofs.powers.power_over.Goals as goal

pub returns-in_err-twice-clause-large : goal.returns-in_err-twice-clause-large
returns-in_err-twice-clause-large c = λ rows letters h.
    let p = err_from_is_err_and c.from_residual.result c.from_residual.ensures.1 in
    let same : c.in_err-twice.field-0.0 ≡ op_fault.Large rows letters = cc (p.1, p.2, h) in
    square_large c.args.a.now.shape c.args.half.now.shape c.args.a.now.rows c.args.half.now.rows (c.args.k / 2) (c.args.k % 2) rows letters c.requires.shape c.requires.element.canonical.pair c.requires.half
    (c.in_err-twice.ensures.large rows letters (ap Err same))

pub returns-then-k-eq0-clause-power : goal.returns-then-k-eq0-clause-power
returns-then-k-eq0-clause-power c =
    let twice = c.in_ok-twice.twice in
    let is : c.args.k / 2 * 2 ≡ c.args.k = omega (arith, c.if-k-eq0.true) in (
      c.in_ok-twice.ensures.product.0 ∙ sym c.requires.shape,
      subst (λ k. IsPower c.args.a.now.shape c.args.a.now.rows (pos k) twice.rows) is
          (square_power c.args.a.now.shape c.args.half.now.shape c.args.a.now.rows c.args.half.now.rows twice.rows (c.args.k / 2) c.requires.shape c.requires.element.canonical.pair c.requires.half c.in_ok-twice.ensures.product.1),
    )

pub returns-then-k-eq0-clause-kept : goal.returns-then-k-eq0-clause-kept
returns-then-k-eq0-clause-kept c =
    even_kept c.args.a.now.shape c.args.half.now.shape c.args.a.now.rows c.args.half.now.rows c.in_ok-twice.twice.rows (c.args.k / 2) (c.args.k % 2) c.if-k-eq0.true c.requires.shape
    c.requires.element.canonical.pair c.requires.half c.in_ok-twice.ensures.kept c.in_ok-twice.ensures.product.1

pub returns-clause-power : goal.returns-clause-power
returns-clause-power c =
    let twice = c.in_ok-twice.twice in
    let own : c.args.a.now.shape ≡ twice.shape = c.requires.shape ∙ sym c.in_ok-twice.ensures.product.0 in
    let is : c.args.k ≡ c.args.k / 2 * 2 + 1 = omega (arith, c.if-k-eq0.false) in
    let square = square_power c.args.a.now.shape c.args.half.now.shape c.args.a.now.rows c.args.half.now.rows twice.rows (c.args.k / 2) c.requires.shape c.requires.element.canonical.pair c.requires.half c.in_ok-twice.ensures.product.1 in
    IfOk-weaker c.product-2.result _ _
    (λ s h. (h.0 ∙ sym own, odd_power c.args.a.now.shape twice.shape c.args.a.now.rows twice.rows s.rows (c.args.k / 2) c.args.k is own c.requires.element.canonical.pair square h.1))
    c.product-2.ensures.product

pub returns-clause-kept : goal.returns-clause-kept
returns-clause-kept c =
    let twice = c.in_ok-twice.twice in
    on_ok_weaker c.product-2.result
    (odd_kept c.args.a.now.shape c.args.half.now.shape twice.shape c.args.a.now.rows c.args.half.now.rows twice.rows (c.args.k / 2) (c.args.k % 2) (omega (arith, c.if-k-eq0.false)) c.requires.shape
    (c.requires.shape ∙ sym c.in_ok-twice.ensures.product.0) c.requires.element.canonical.pair c.requires.half c.in_ok-twice.ensures.kept c.in_ok-twice.ensures.product.1)
    c.product-2.ensures.kept

pub returns-clause-large : goal.returns-clause-large
returns-clause-large c = λ rows letters h.
    let twice = c.in_ok-twice.twice in
    odd_large c.args.a.now.shape c.args.half.now.shape twice.shape c.args.a.now.rows c.args.half.now.rows twice.rows (c.args.k / 2) (c.args.k % 2) rows letters (omega (arith, c.if-k-eq0.false)) c.requires.shape
    (c.requires.shape ∙ sym c.in_ok-twice.ensures.product.0) c.requires.element.canonical.pair c.requires.half c.in_ok-twice.ensures.kept c.in_ok-twice.ensures.product.1 (c.product-2.ensures.large rows letters h)
