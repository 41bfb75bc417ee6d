use Rattle.std.proofs.Common.{vec_len}
use Rattle.ht_share.proofs.ListingLaws.{IsListing}
use Rattle.ht_share.proofs.pond.ponds.Given as goal

abbrev pub invariant-loop-last : goal.invariant-loop-last
invariant-loop-last l = IsListing l.t.element.shape l.t.element.rows l.t.quasi.basis.words l.ponds l.found.items

abbrev pub decreases-loop-last : goal.decreases-loop-last
decreases-loop-last l = vec_len l.found
