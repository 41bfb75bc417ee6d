use Rattle.std.proofs.Common.{◌≤◌, get_or}
use Rattle.ht_types.proofs.RoundLaws.{AreBehind}
use Rattle.ht_types.proofs.course.round_letters.Given as goal

abbrev pub invariant-loop-i : goal.invariant-loop-i
invariant-loop-i l = record { low : l.first ≤ l.i; behind : AreBehind l.steps l.path (get_or l.path l.first 0) l.i l.by }
