use Rattle.std.proofs.Common.{All, take}
use Rattle.std.specs.Int.{IsInRange}
use Rattle.ht_script.proofs.exponent.count_digits.Given as goal

abbrev pub invariant-loop-i : goal.invariant-loop-i
invariant-loop-i l = All (IsInRange 48 57) (take l.i l.bytes)
