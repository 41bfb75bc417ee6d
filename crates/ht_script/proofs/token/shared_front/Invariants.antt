use Rattle.std.proofs.Common.{◌≡◌, ◌≤◌, length, take}
use Rattle.ht_script.proofs.token.shared_front.Given as goal

abbrev pub invariant-loop-i : goal.invariant-loop-i
invariant-loop-i l = (l.i ≤ length l.text) × (take l.i l.bytes ≡ take l.i l.text)
