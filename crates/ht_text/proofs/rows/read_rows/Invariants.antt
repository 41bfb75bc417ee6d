use Rattle.std.proofs.Common.{length}
use Rattle.ht_text.proofs.RowTexts.{HasRead}
use Rattle.ht_text.proofs.rows.read_rows.Given as goal

abbrev pub invariant-rows : goal.invariant-rows
invariant-rows l = HasRead l.bytes l.rows l.rest

abbrev pub decreases-rows : goal.decreases-rows
decreases-rows l = length l.rest
