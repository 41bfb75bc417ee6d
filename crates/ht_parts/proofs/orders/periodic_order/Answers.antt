use Rattle.std.proofs.Common.{◌<◌, length, arith}
use Rattle.ht_parts.proofs.CycleTests.{words_counted, length_positive, joined_more, joined_same, joined_wide}
use Rattle.ht_parts.proofs.orders.periodic_order.Goals as goal

pub loop-place-preserved-in_default : goal.loop-place-preserved-in_default
loop-place-preserved-in_default c =
    let count = words_counted c.len-place-end.result c.words.result.now c.quasi.result.now c.args.t.now.quasi c.len-place-end.ensures c.words.ensures.words c.quasi.ensures.quasi in
    let inside : c.loop-place.place < length c.args.t.now.quasi.basis.words = omega (arith, count) in
    record {
      joined = joined_same c.args.t.now.element c.args.t.now.quasi c.args.t.now.kinds c.loop-place.place c.loop-place.order c.kind.result.now c.keeps_kinds.ensures inside c.kind.ensures.kind c.in_default.not-Cycle c.loop-place.invariant.joined;
      narrow = c.loop-place.invariant.narrow;
    }

pub lcm-requires-clause-second : goal.lcm-requires-clause-second
lcm-requires-clause-second c =
    let count = words_counted c.len-place-end.result c.words.result.now c.quasi.result.now c.args.t.now.quasi c.len-place-end.ensures c.words.ensures.words c.quasi.ensures.quasi in
    let inside : c.loop-place.place < length c.args.t.now.quasi.basis.words = omega (arith, count) in
    let low = length_positive c.args.t.now.element c.args.t.now.quasi c.args.t.now.kinds c.loop-place.place c.kind.result.now c.in-Cycle.m c.keeps_kinds.ensures inside c.kind.ensures.kind c.in-Cycle.is in
    (omega (arith, low, c.from.ensures), omega (arith, c.from.ensures))

pub returns-in_default-lcm : goal.returns-in_default-lcm
returns-in_default-lcm c =
    let count = words_counted c.len-place-end.result c.words.result.now c.quasi.result.now c.args.t.now.quasi c.len-place-end.ensures c.words.ensures.words c.quasi.ensures.quasi in
    let inside : c.loop-place.place < length c.args.t.now.quasi.basis.words = omega (arith, count) in
    joined_wide c.args.t.now.element c.args.t.now.quasi c.args.t.now.kinds c.loop-place.place c.loop-place.order c.kind.result.now c.in-Cycle.m c.from.result c.keeps_kinds.ensures inside c.kind.ensures.kind c.in-Cycle.is c.from.ensures
    c.loop-place.invariant.joined c.in_default-lcm.ensures

pub loop-place-preserved : goal.loop-place-preserved
loop-place-preserved c =
    let count = words_counted c.len-place-end.result c.words.result.now c.quasi.result.now c.args.t.now.quasi c.len-place-end.ensures c.words.ensures.words c.quasi.ensures.quasi in
    let inside : c.loop-place.place < length c.args.t.now.quasi.basis.words = omega (arith, count) in
    record {
      joined = joined_more c.args.t.now.element c.args.t.now.quasi c.args.t.now.kinds c.loop-place.place c.loop-place.order c.in-Some.joined c.kind.result.now c.in-Cycle.m c.from.result c.keeps_kinds.ensures inside c.kind.ensures.kind c.in-Cycle.is
          c.from.ensures c.loop-place.invariant.joined c.in-Some.ensures.0;
      narrow = c.in-Some.ensures.1;
    }
