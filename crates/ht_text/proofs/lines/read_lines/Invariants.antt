use Rattle.std.proofs.Common.{◌≡◌, length}
use Rattle.ht_text.proofs.FileStops.{HasReadLines}
use Rattle.ht_text.proofs.lines.read_lines.Given as goal

abbrev pub invariant-loop-i : goal.invariant-loop-i
invariant-loop-i l = record { read : HasReadLines l.head.rest.now l.rows l.rest; number : length l.rows ≡ l.i }
