use Rattle.ht_links.specs.Listing.{AddsEndLinks}
use Rattle.ht_links.proofs.ends.add_end_links.Given as goal

abbrev pub invariant-loop-place : goal.invariant-loop-place
invariant-loop-place l = AddsEndLinks l.t 0 l.place l.fn.links l.links
