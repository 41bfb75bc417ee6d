use Rattle.std.proofs.Common.{arith}
use Rattle.std.proofs.lemmas.Option.{slice_get_within}
use Rattle.ht_types.specs.Flows.{power_in}
use Rattle.ht_local.proofs.LedLaws.{led_begins, led_asked, led_more}
use Rattle.ht_local.proofs.led.walked.Goals as goal

pub walking-init : goal.walking-init
walking-init c =
    let none = c.in_ok-placed.ensures.none in (
      omega arith,
      led_begins c.args.t.now c.args.direction c.args.word.now (record { letters = c.new.result; walk = c.in_ok-placed.field-0 }) c.requires.word c.new.ensures c.in_ok-placed.ensures,
    )

pub led_on-requires-clause-place : goal.led_on-requires-clause-place
led_on-requires-clause-place c = let l = c.walking.invariant.1 in slice_get_within c.args.t.now.quasi.basis.words c.walking.way.walk.to l.above l.here

pub led_on-requires-clause-word : goal.led_on-requires-clause-word
led_on-requires-clause-word c = led_asked c.args.t.now c.keeps_kinds.ensures (power_in c.args.direction c.walking.way.walk.steps) c.args.word.now c.walking.way c.walking.invariant.1

pub walking-preserved : goal.walking-preserved
walking-preserved c =
    let on = c.in_ok-way.ensures in
    let more = on.steps in
    let less = c.walking-test.true in (
      omega arith,
      led_more c.args.t.now c.keeps_kinds.ensures c.args.direction c.args.word.now c.walking.way c.in_ok-way.way c.walking.invariant.1 on,
    )
