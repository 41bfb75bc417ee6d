use Rattle.std.proofs.Common.{[], ◌∷◌, arith}
use Rattle.ht_power.proofs.PeriodLaws.{joined_exists, joined_le}
use Rattle.ht_power.proofs.BothRates.{HaveCommon, common_first, common_second, have_rates, wide_period, wide_first_ahead, wide_first_behind, wide_second_ahead, wide_second_behind}
use Rattle.ht_power.proofs.WideNumbers.{none_wide, none_wide_too}
use Rattle.ht_power.proofs.rates.rates_of.Goals as goal
use Rattle.ht_power.proofs.rates.rates_of.Goals.{In_ok-period}

-- the common period
common : (c : In_ok-period) → HaveCommon c.args.f.now c.args.g.now c.in_ok-period.period
common c = record {
  same = c.requires;
  first_typed = c.keeps_kinds.ensures;
  second_typed = c.keeps_kinds-2.ensures;
  period = c.in_ok-joined_period.field-0;
  first = c.in_ok-joined_period.ensures.0;
  second = c.in_ok-period.ensures.0;
}

pub returns-in_err-joined_period : goal.returns-in_err-joined_period
returns-in_err-joined_period c =
    let g = c.args.g.now in
    let first = c.in_err-joined_period.ensures in
    let whole = joined_exists g c.keeps_kinds-2.ensures g.quasi.basis.words (λ x d. d) first.0 first.1.positive in
    rw c.from_residual.ensures
    (wide_period (record { same = c.requires; first_typed = c.keeps_kinds.ensures; second_typed = c.keeps_kinds-2.ensures; period = first.0; first = first.1; second = whole.1 })
    (omega (arith, first.2, joined_le g g.quasi.basis.words first.0 whole.0 whole.1)))

pub returns-in_err-period : goal.returns-in_err-period
returns-in_err-period c =
    let whole = c.in_err-period.ensures in
    rw c.from_residual-in_err-period.ensures
    (wide_period (record {
      same = c.requires;
      first_typed = c.keeps_kinds.ensures;
      second_typed = c.keeps_kinds-2.ensures;
      period = c.in_ok-joined_period.field-0;
      first = c.in_ok-joined_period.ensures.0;
      second = whole.1;
    }) whole.2)

pub rate_sum-requires-clause-common : goal.rate_sum-requires-clause-common
rate_sum-requires-clause-common c = common_first (common (goal.at.rate_sum-requires-clause-common c).In_ok-period)

pub returns-in_err-rate_sum : goal.returns-in_err-rate_sum
returns-in_err-rate_sum c = rw c.from_residual-in_err-rate_sum.ensures (wide_first_ahead (common (goal.at.returns-in_err-rate_sum c).In_ok-period) c.in_err-rate_sum.ensures)

pub rate_sum-requires-2-clause-common : goal.rate_sum-requires-2-clause-common
rate_sum-requires-2-clause-common c = common_first (common (goal.at.rate_sum-requires-2-clause-common c).In_ok-period)

pub returns-in_err-rate_sum-2 : goal.returns-in_err-rate_sum-2
returns-in_err-rate_sum-2 c = rw c.from_residual-in_err-rate_sum-2.ensures (wide_first_behind (common (goal.at.returns-in_err-rate_sum-2 c).In_ok-period) c.in_err-rate_sum-2.ensures)

pub returns-in_err-rate_sum-3 : goal.returns-in_err-rate_sum-3
returns-in_err-rate_sum-3 c = rw c.from_residual-in_err-rate_sum-3.ensures (wide_second_ahead (common (goal.at.returns-in_err-rate_sum-3 c).In_ok-period) c.in_err-rate_sum-3.ensures)

pub rate_sum-requires-4-clause-common : goal.rate_sum-requires-4-clause-common
rate_sum-requires-4-clause-common c = common_second (common (goal.at.rate_sum-requires-4-clause-common c).In_ok-period)

pub returns-in_err-rate_sum-4 : goal.returns-in_err-rate_sum-4
returns-in_err-rate_sum-4 c = rw c.from_residual-in_err-rate_sum-4.ensures (wide_second_behind (common (goal.at.returns-in_err-rate_sum-4 c).In_ok-period) c.in_err-rate_sum-4.ensures)

pub returns : goal.returns
returns c =
    let a = c.in_ok-rate_sum.field-0 in
    let b = c.in_ok-rate_sum-2.field-0 in
    let d = c.in_ok-rate_sum-3.field-0 in
    let e = c.in_ok-rate_sum-4.field-0 in
    record {
      have = have_rates (common (goal.at.returns c).In_ok-period) a b d e c.in_ok-rate_sum.ensures.0 c.in_ok-rate_sum-2.ensures.0 c.in_ok-rate_sum-3.ensures.0 c.in_ok-rate_sum-4.ensures.0;
      small = none_wide_too c.in_ok-period.period (a ∷ b ∷ d ∷ e ∷ []) c.in_ok-period.ensures.1 (none_wide_too a (b ∷ d ∷ e ∷ []) c.in_ok-rate_sum.ensures.1
          (none_wide_too b (d ∷ e ∷ []) c.in_ok-rate_sum-2.ensures.1 (none_wide_too d (e ∷ []) c.in_ok-rate_sum-3.ensures.1 (none_wide_too e [] c.in_ok-rate_sum-4.ensures.1 none_wide))));
    }
