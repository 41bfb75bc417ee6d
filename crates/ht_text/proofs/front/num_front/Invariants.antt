use Rattle.std.proofs.Common.{◌≤◌, take}
use Rattle.std.specs.Str.Parse.{AllDigits}
use Rattle.ht_text.proofs.front.num_front.Given as goal

abbrev pub invariant-loop-i : goal.invariant-loop-i
invariant-loop-i l = (l.i ≤ 4) × AllDigits 10 (take l.i l.bytes)
