use Rattle.std.specs.Int.{IsInRange}
use Rattle.std.proofs.lemmas.List.Elements.{All-more}
use Rattle.ht_script.proofs.exponent.count_digits.Goals as goal

pub loop-i-preserved : goal.loop-i-preserved
loop-i-preserved c = All-more (IsInRange 48 57) c.args.bytes.now c.loop-i.i 0 c.loop-i-test.true c.loop-i.invariant c.if-not-is_ascii_digit.ensures.cases
