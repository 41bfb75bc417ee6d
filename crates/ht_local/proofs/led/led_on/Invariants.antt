use Rattle.std.proofs.Common.{◌+◌, ◌-◌, length}
use Rattle.ht_pair.specs.Bases.{longest}
use Rattle.ht_pair.specs.Pairs.{from_words}
use Rattle.ht_types.proofs.SeenLaws.{rows_in}
use Rattle.ht_local.proofs.LedLaws.{IsSplitting}
use Rattle.ht_local.proofs.led.led_on.Given as goal

abbrev pub invariant-splitting : goal.invariant-splitting
invariant-splitting l = IsSplitting l.t l.fn.way l.letters l.walk

abbrev pub decreases-splitting : goal.decreases-splitting
decreases-splitting l = longest (from_words (rows_in l.direction l.t.element.rows)) + longest l.t.quasi.basis.words - length l.walk.rest
