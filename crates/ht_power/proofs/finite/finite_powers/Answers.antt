use Rattle.std.proofs.Common.{◌≤◌, ◌↔◌, ℕ, Contains, subst, sym}
use Rattle.std.specs.Int.{◌∣◌}
use Rattle.std.proofs.Math.Nat.{pos_of_dvd_of_pos}
use Rattle.ht_power.specs.FiniteOrders.{AreTrialDivisors}
use Rattle.ht_power.proofs.FiniteAnswers.{both_finite, finite_answer, finite_told, first_order_wide, second_order_wide, tried_divide}
use Rattle.ht_power.proofs.finite.finite_powers.Goals as goal
use Rattle.ht_power.proofs.finite.finite_powers.Goals.{in_default-via-in-Some+in_default, in_default-via-in_default}

pub returns-in_default : goal.returns-in_default
returns-in_default g c =
    let f = c.args.f.now in
    let h = c.args.g.now in
    let first = c.periodic_order.result in
    let second = c.periodic_order-2.result in
    elim c.in_default.branch [
      | in_default-via-in-Some+in_default w ↦ second_order_wide f h c.keeps_kinds.ensures c.keeps_kinds-2.ensures c.requires.shape c.requires.first c.requires.second first second w.in_default.is-1 c.periodic_order.ensures c.periodic_order-2.ensures
      | in_default-via-in_default w ↦ first_order_wide f h c.keeps_kinds.ensures c.keeps_kinds-2.ensures c.requires.shape c.requires.first c.requires.second first second w.in_default.is-0 c.periodic_order.ensures c.periodic_order-2.ensures
    ]

pub divisors-requires : goal.divisors-requires
divisors-requires g c = pos_of_dvd_of_pos c.gcd.ensures.0 c.in-Some-Some.ensures.0.positive

pub trials-requires-clause-divide : goal.trials-requires-clause-divide
trials-requires-clause-divide g c =
    let tried = c.in_ok-tried.ensures in
    subst (AreTrialDivisors c.in-Some-Some.first c.in-Some-Some.second) (sym c.as_slice.ensures.value)
    (tried_divide c.in-Some-Some.first c.in-Some-Some.second c.gcd.result c.min-most.result c.in_ok-tried.tried.items c.gcd.ensures tried.ascending tried.each)

pub returns : goal.returns
returns g c =
    let f = c.args.f.now in
    let h = c.args.g.now in
    let m = c.in-Some-Some.first in
    let n = c.in-Some-Some.second in
    let order = c.in-Some-Some.ensures in
    let order_too = c.in-Some-Some.ensures' in
    let tried = c.in_ok-tried.ensures in
    let each = subst (λ (most : ℕ). (d : ℕ) → Contains c.in_ok-tried.tried.items d ↔ ((2 ≤ d) × (d ≤ most) × (d ∣ c.gcd.result))) c.min-most.ensures tried.each in
    let both = both_finite f h m n c.keeps_kinds.ensures c.keeps_kinds-2.ensures c.requires.shape c.requires.first c.requires.second order.0 order_too.0 in
    finite_told f h m n c.as_slice.result.now c.in_ok-tried.tried.items c.trials.result c.as_slice.ensures.value
    (finite_answer f h m n c.gcd.result c.longest_cycle.result c.longest_cycle-2.result c.in_ok-tried.tried.items c.requires.shape both order.1 order_too.1 c.gcd.ensures c.longest_cycle.ensures c.longest_cycle-2.ensures tried.ascending each)
    c.trials.ensures
