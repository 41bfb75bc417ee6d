use Rattle.std.proofs.Common.{◌≡◌, ◌∙◌, inl, inr, ap, sym, pos, ◌<ℤ◌, ◌≤ℤ◌, unsigned_abs, to_z, of_z, arith}
use Rattle.std.specs.Int.{w128}
use Rattle.std.proofs.lemmas.Int.{ints, to_z-of_z}
use Rattle.std.proofs.lemmas.Result.{on_ok_weaker}
use Rattle.ht_ops.proofs.PowerChains.{large_down, small_kept, up_kept, zero_power_is, one_power_is}
use Rattle.ht_ops.proofs.powers.power.Goals as goal

pub returns-then-k-lt0-clause-kept : goal.returns-then-k-lt0-clause-kept
returns-then-k-lt0-clause-kept c =
    let below : c.args.k <ℤ pos 0 = omega (arith, ints, c.if-k-lt0.true) in
    on_ok_weaker c.power_down.result
    (λ none rows letters h. none rows letters (large_down c.args.a.now.shape c.args.a.now.rows c.args.k c.unsigned_abs.result rows letters below (c.unsigned_abs.ensures.value ∙ ap unsigned_abs (to_z-of_z w128 c.args.k c.ranges.k)) h))
    c.power_down.ensures.kept

pub returns-then-k-eq0-clause-power : goal.returns-then-k-eq0-clause-power
returns-then-k-eq0-clause-power c =
    let zero : c.args.k ≡ pos 0 = omega (arith, ints, c.if-k-eq0.true) in
    zero_power_is c.args.a.now.shape c.shape.result c.args.a.now.rows c.args.k c.in_ok-identity.field-0 zero c.shape.ensures c.in_ok-identity.ensures

pub returns-then-k-eq0-clause-kept : goal.returns-then-k-eq0-clause-kept
returns-then-k-eq0-clause-kept c =
    let zero : c.args.k ≡ pos 0 = omega (arith, ints, c.if-k-eq0.true) in
    small_kept c.args.a.now.shape c.args.a.now.rows c.args.k (inl zero) c.keeps_limits.ensures

pub returns-then-k-eq1-clause-power : goal.returns-then-k-eq1-clause-power
returns-then-k-eq1-clause-power c =
    let one : c.args.k ≡ pos 1 = omega (arith, ints, c.if-k-eq1.true) in
    one_power_is c.args.a.now c.in_ok-copy.field-0 c.args.k one c.in_ok-copy.ensures c.keeps_limits.ensures.canonical.pair

pub returns-then-k-eq1-clause-kept : goal.returns-then-k-eq1-clause-kept
returns-then-k-eq1-clause-kept c =
    let one : c.args.k ≡ pos 1 = omega (arith, ints, c.if-k-eq1.true) in
    small_kept c.args.a.now.shape c.args.a.now.rows c.args.k (inr one) c.keeps_limits.ensures

pub returns-clause-kept : goal.returns-clause-kept
returns-clause-kept c =
    let up : pos 0 ≤ℤ c.args.k = omega (arith, ints, c.if-k-lt0.false) in
    on_ok_weaker c.power_up.result (up_kept c.args.a.now.shape c.args.a.now.rows c.args.k (to_z w128 (of_z w128 c.args.k)) (sym (to_z-of_z w128 c.args.k c.ranges.k)) up) c.power_up.ensures.kept
