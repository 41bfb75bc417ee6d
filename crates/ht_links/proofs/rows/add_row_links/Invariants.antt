use Rattle.std.proofs.Common.{take}
use Rattle.ht_links.specs.Listing.{AddsRowLinks}
use Rattle.ht_links.proofs.rows.add_row_links.Given as goal

abbrev pub invariant-loop-row : goal.invariant-loop-row
invariant-loop-row l = AddsRowLinks l.t (take l.row-index l.row-items) l.fn.links l.links
