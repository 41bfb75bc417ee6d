use Rattle.std.proofs.Common.{◌≡◌, ◌++◌, take}
use Rattle.ht_text.proofs.RowTexts.{front_text}
use Rattle.ht_text.proofs.rows.write_rows.Given as goal

abbrev pub invariant-loop-row : goal.invariant-loop-row
invariant-loop-row l = l.out.items ≡ l.fn.out.items ++ front_text (take l.row-index l.before)
