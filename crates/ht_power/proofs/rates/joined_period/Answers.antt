use Rattle.std.proofs.Common.{◌+◌, ◌<◌, length, arith}
use Rattle.ht_parts.proofs.CycleTests.{words_counted}
use Rattle.ht_quasi.proofs.RoundLaws.{something_at}
use Rattle.ht_power.proofs.PeriodLaws.{period_positive, joins_more, joins_same, joins_wide, joins_all}
use Rattle.ht_power.proofs.rates.joined_period.Goals as goal

pub loop-place-preserved-in_default : goal.loop-place-preserved-in_default
loop-place-preserved-in_default c =
    let count = words_counted c.len-place-end.result c.words.result.now c.quasi.result.now c.args.t.now.quasi c.len-place-end.ensures c.words.ensures.words c.quasi.ensures.quasi in
    let inside : c.loop-place.place < length c.args.t.now.quasi.basis.words = omega (arith, count) in
    record {
      joins = joins_same c.args.t.now c.args.number c.loop-place.place c.loop-place.joined inside c.in_default.ensures.period c.loop-place.invariant.joins;
      low = c.loop-place.invariant.low;
      narrow = c.loop-place.invariant.narrow;
    }

pub lcm-requires-clause-second : goal.lcm-requires-clause-second
lcm-requires-clause-second c =
    let count = words_counted c.len-place-end.result c.words.result.now c.quasi.result.now c.args.t.now.quasi c.len-place-end.ensures c.words.ensures.words c.quasi.ensures.quasi in
    let inside : c.loop-place.place < length c.args.t.now.quasi.basis.words = omega (arith, count) in
    let x = something_at c.args.t.now.quasi.basis.words c.loop-place.place inside in
    (period_positive c.args.t.now x.0 c.in-Some.m (c.in-Some.ensures.period x.0 x.1), omega (arith, c.in-Some.ensures.short))

pub returns-in_err-joined : goal.returns-in_err-joined
returns-in_err-joined c =
    let t = c.args.t.now in
    let place = c.loop-place.place in
    let count = words_counted c.len-place-end.result c.words.result.now c.quasi.result.now t.quasi c.len-place-end.ensures c.words.ensures.words c.quasi.ensures.quasi in
    let inside : place < length t.quasi.basis.words = omega (arith, count) in
    let wide = c.in_err-joined.ensures in
    rw c.from_residual.ensures
    (joins_wide t c.keeps_kinds.ensures c.args.number (place + 1) wide.0 wide.1.positive wide.2
    (joins_more t c.keeps_kinds.ensures c.args.number place c.loop-place.joined c.in-Some.m wide.0 inside c.in-Some.ensures.period wide.1 c.loop-place.invariant.joins))

pub loop-place-preserved : goal.loop-place-preserved
loop-place-preserved c =
    let t = c.args.t.now in
    let count = words_counted c.len-place-end.result c.words.result.now c.quasi.result.now t.quasi c.len-place-end.ensures c.words.ensures.words c.quasi.ensures.quasi in
    let inside : c.loop-place.place < length t.quasi.basis.words = omega (arith, count) in
    let lcm = c.in_ok-joined.ensures in
    record {
      joins = joins_more t c.keeps_kinds.ensures c.args.number c.loop-place.place c.loop-place.joined c.in-Some.m c.in_ok-joined.joined
          inside c.in-Some.ensures.period lcm.0 c.loop-place.invariant.joins;
      low = lcm.0.positive;
      narrow = lcm.1;
    }

pub returns : goal.returns
returns c =
    let count = words_counted c.len-place-end.result c.words.result.now c.quasi.result.now c.args.t.now.quasi c.len-place-end.ensures c.words.ensures.words c.quasi.ensures.quasi in
    (joins_all c.args.t.now c.args.number c.loop-place.place c.loop-place.joined (omega (arith, count)) c.loop-place.invariant.low c.loop-place.invariant.joins, c.loop-place.invariant.narrow)
