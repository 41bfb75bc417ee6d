use Rattle.std.proofs.Common.{arith, length-append}
use Rattle.std.proofs.lemmas.Bool.Decides.{nat_tests}
use Rattle.ht_text.proofs.word.write_parts.Goals as goal
use Rattle.ht_text.proofs.word.write_parts.Goals.{else-is_empty-via-then-is_empty+else-is_empty-2, else-is_empty-via-else-is_empty}

pub write_dotted-requires-clause-some : goal.write_dotted-requires-clause-some
write_dotted-requires-clause-some c = elim c.else-is_empty.branch [
  | else-is_empty-via-then-is_empty+else-is_empty-2 w ↦ grind (arith, nat_tests, length-append c.args.letters.now c.args.more.now)
  | else-is_empty-via-else-is_empty w ↦ grind (arith, nat_tests, length-append c.args.letters.now c.args.more.now)
]
