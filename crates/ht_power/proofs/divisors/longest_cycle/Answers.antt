use Rattle.std.proofs.Common.{◌<◌, ◌∙◌, length, arith}
use Rattle.ht_parts.proofs.CycleTests.{words_counted}
use Rattle.ht_power.proofs.CycleLengths.{larger_told, longest_at_cycle, longest_at_other}
use Rattle.ht_power.proofs.divisors.longest_cycle.Goals as goal
use Rattle.ht_power.proofs.divisors.longest_cycle.Goals.{in-Cycle, in_default}

pub loop-place-preserved : goal.loop-place-preserved
loop-place-preserved c =
    let t = c.args.t.now in
    let count = words_counted c.len-place-end.result c.words.result.now c.quasi.result.now t.quasi c.len-place-end.ensures c.words.ensures.words c.quasi.ensures.quasi in
    let inside : c.loop-place.place < length t.quasi.basis.words = omega (arith, count) in
    elim c.match-kind.branch [
      | in-Cycle w ↦ longest_at_cycle t.element t.quasi t.kinds c.loop-place.place c.loop-place.longest c.match-kind.longest c.kind.result.now w.in-Cycle.m c.keeps_kinds.ensures inside c.kind.ensures.kind w.in-Cycle.is (w.longest-is ∙ w.max-longest.ensures ∙ larger_told c.loop-place.longest w.in-Cycle.m) c.loop-place.invariant
      | in_default w ↦ longest_at_other t.element t.quasi t.kinds c.loop-place.place c.loop-place.longest c.match-kind.longest c.kind.result.now c.keeps_kinds.ensures inside c.kind.ensures.kind w.in_default.not-Cycle w.longest-is c.loop-place.invariant
    ]
