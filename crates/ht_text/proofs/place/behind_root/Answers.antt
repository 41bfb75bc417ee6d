use Rattle.std.proofs.Common.{arith}
use Rattle.ht_text.proofs.PlaceLaws.{root_point, root_digit, root_stop}
use Rattle.ht_text.proofs.place.behind_root.Goals as goal
use Rattle.ht_text.proofs.place.behind_root.Goals.{else-room-gt0-via-then-room-gt0+then-byte-ge48+else-byte-le57, else-room-gt0-via-then-room-gt0+else-byte-ge48, else-room-gt0-via-else-room-gt0}

pub returns-then-byte-eq46 : goal.returns-then-byte-eq46
returns-then-byte-eq46 c = λ rest. root_point c.args.room c.args.byte rest (omega arith)

pub returns-then-byte-le57 : goal.returns-then-byte-le57
returns-then-byte-le57 c = λ rest. root_digit c.args.room c.args.byte rest (omega arith) (omega arith) (omega arith)

pub returns : goal.returns
returns c = λ rest. root_stop c.args.room c.args.byte rest c.if-byte-eq46.false (λ all. elim c.else-room-gt0.branch [
  | else-room-gt0-via-then-room-gt0+then-byte-ge48+else-byte-le57 w ↦ omega arith
  | else-room-gt0-via-then-room-gt0+else-byte-ge48 w ↦ omega arith
  | else-room-gt0-via-else-room-gt0 w ↦ omega arith
])
