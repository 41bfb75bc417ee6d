use Rattle.std.proofs.Common.{arith}
use Rattle.ht_parts.proofs.CycleTests.{words_counted}
use Rattle.ht_power.proofs.CyclePowers.{never_splits, one_more_led}
use Rattle.ht_power.proofs.cycles.places_next.Goals as goal

pub unreachable-requires : goal.unreachable-requires
unreachable-requires c =
    let t = c.args.t.now in
    let count = words_counted c.len-place-end.result c.words.result.now c.quasi.result.now t.quasi c.len-place-end.ensures c.words.ensures.words c.quasi.ensures.quasi in
    never_splits t c.keeps_kinds.ensures c.requires c.loop-place.place c.step_in.result.now (omega (arith, count, c.loop-place-test.true)) c.step_in.ensures c.in_default.is

pub loop-place-preserved : goal.loop-place-preserved
loop-place-preserved c =
    let t = c.args.t.now in
    let count = words_counted c.len-place-end.result c.words.result.now c.quasi.result.now t.quasi c.len-place-end.ensures c.words.ensures.words c.quasi.ensures.quasi in
    one_more_led t c.keeps_kinds.ensures c.requires c.loop-place.place c.in-Leads.to c.in-Leads.rest c.step_in.result.now c.loop-place.places.items c.push.new.self.items c.loop-place.invariant (omega (arith, count, c.loop-place-test.true)) c.step_in.ensures c.in-Leads.is c.in_ok-push.ensures.items
