use Rattle.std.proofs.Common.{◌+◌, ◌*◌, ◌/◌, ◌<◌, length, arith, refl, sym, subst}
use Rattle.ht_parts.proofs.CycleTests.{words_counted}
use Rattle.ht_quasi.proofs.RoundLaws.{something_at}
use Rattle.ht_num.specs.Numbers.{IsWide}
use Rattle.ht_power.proofs.PeriodLaws.{period_positive}
use Rattle.ht_power.proofs.RateSums.{Counts, end_period, counts_more, counts_same, counts_wide, counts_all}
use Rattle.ht_power.proofs.rates.rate_sum.Goals as goal

pub loop-place-preserved-in_default : goal.loop-place-preserved-in_default
loop-place-preserved-in_default c =
    let count = words_counted c.len-place-end.result c.words.result.now c.quasi.result.now c.args.t.now.quasi c.len-place-end.ensures c.words.ensures.words c.quasi.ensures.quasi in
    let inside : c.loop-place.place < length c.args.t.now.quasi.basis.words = omega (arith, count) in
    record {
      counts = counts_same c.args.direction c.args.t.now c.args.period c.loop-place.place c.loop-place.total inside c.in_default.ensures.end c.loop-place.invariant.counts;
      narrow = c.loop-place.invariant.narrow;
    }

pub nonzero_div-period : goal.nonzero_div-period
nonzero_div-period c =
    let count = words_counted c.len-place-end.result c.words.result.now c.quasi.result.now c.args.t.now.quasi c.len-place-end.ensures c.words.ensures.words c.quasi.ensures.quasi in
    let inside : c.loop-place.place < length c.args.t.now.quasi.basis.words = omega (arith, count) in
    let x = something_at c.args.t.now.quasi.basis.words c.loop-place.place inside in
    let end = c.in-Some.ensures.end x.0 x.1 in
    period_positive c.args.t.now x.0 c.in-Some.m (end_period c.args.direction c.args.t.now x.0 c.in-Some.m end.0 end.1)

pub returns-in_err-times : goal.returns-in_err-times
returns-in_err-times c =
    let t = c.args.t.now in
    let place = c.loop-place.place in
    let count = words_counted c.len-place-end.result c.words.result.now c.quasi.result.now t.quasi c.len-place-end.ensures c.words.ensures.words c.quasi.ensures.quasi in
    let inside : place < length t.quasi.basis.words = omega (arith, count) in
    let rate = c.in-Some.letters * (c.args.period / c.in-Some.m) in
    let wide : IsWide rate = c.in_err-times.ensures in
    rw c.from_residual.ensures
    (counts_wide c.args.direction t c.keeps_kinds.ensures c.args.period place (c.loop-place.total + rate) inside (omega (arith, wide))
    (counts_more c.args.direction t c.keeps_kinds.ensures c.args.period place c.loop-place.total c.in-Some.m c.in-Some.letters rate
    c.requires.common inside c.in-Some.ensures.end refl c.loop-place.invariant.counts))

pub returns-in_err-total : goal.returns-in_err-total
returns-in_err-total c =
    let t = c.args.t.now in
    let place = c.loop-place.place in
    let count = words_counted c.len-place-end.result c.words.result.now c.quasi.result.now t.quasi c.len-place-end.ensures c.words.ensures.words c.quasi.ensures.quasi in
    let inside : place < length t.quasi.basis.words = omega (arith, count) in
    let rate = c.in_ok-times.field-0 in
    rw c.from_residual-in_err-total.ensures
    (counts_wide c.args.direction t c.keeps_kinds.ensures c.args.period place (c.loop-place.total + rate) inside c.in_err-total.ensures
    (counts_more c.args.direction t c.keeps_kinds.ensures c.args.period place c.loop-place.total c.in-Some.m c.in-Some.letters rate
    c.requires.common inside c.in-Some.ensures.end c.in_ok-times.ensures.0 c.loop-place.invariant.counts))

pub loop-place-preserved : goal.loop-place-preserved
loop-place-preserved c =
    let t = c.args.t.now in
    let place = c.loop-place.place in
    let count = words_counted c.len-place-end.result c.words.result.now c.quasi.result.now t.quasi c.len-place-end.ensures c.words.ensures.words c.quasi.ensures.quasi in
    let inside : place < length t.quasi.basis.words = omega (arith, count) in
    let rate = c.in_ok-times.field-0 in
    let sum = c.in_ok-total.ensures in
    record {
      counts = subst (Counts c.args.direction t c.args.period (place + 1)) (sym sum.0)
          (counts_more c.args.direction t c.keeps_kinds.ensures c.args.period place c.loop-place.total c.in-Some.m c.in-Some.letters rate
          c.requires.common inside c.in-Some.ensures.end c.in_ok-times.ensures.0 c.loop-place.invariant.counts);
      narrow = sum.1;
    }

pub returns : goal.returns
returns c =
    let count = words_counted c.len-place-end.result c.words.result.now c.quasi.result.now c.args.t.now.quasi c.len-place-end.ensures c.words.ensures.words c.quasi.ensures.quasi in
    (counts_all c.args.direction c.args.t.now c.args.period c.loop-place.place c.loop-place.total (omega (arith, count)) c.loop-place.invariant.counts, c.loop-place.invariant.narrow)
