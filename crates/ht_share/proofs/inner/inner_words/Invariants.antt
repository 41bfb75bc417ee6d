use Rattle.std.proofs.Common.{take}
use Rattle.ht_share.proofs.InnerLaws.{AreAboveRows}
use Rattle.ht_share.proofs.inner.inner_words.Given as goal

abbrev pub invariant-loop-row : goal.invariant-loop-row
invariant-loop-row l = AreAboveRows l.t.quasi.basis.words (take l.row-index l.row-items) l.inner
