use Rattle.std.proofs.Common.{◌≡◌, ◌-◌, ◌++◌}
use Rattle.ht_share.proofs.InnerLaws.{heads}
use Rattle.ht_share.proofs.inner.add_above.Given as goal

abbrev pub invariant-loop-left : goal.invariant-loop-left
invariant-loop-left l = l.inner ++ heads l.next (l.count - l._left) ≡ l.fn.inner ++ heads l.initial.next l.count
