use Rattle.std.proofs.Common.{◌+◌, arith}
use Rattle.ht_links.proofs.ListingLaws.{end_links_then}
use Rattle.ht_links.proofs.ends.add_end_links.Goals as goal

pub loop-place-preserved : goal.loop-place-preserved
loop-place-preserved c = end_links_then c.args.t.now 0 c.loop-place.place (c.loop-place.place + 1) c.args.links.now c.loop-place.links c.add_links_at.new.links (omega arith) (omega arith) c.loop-place.invariant c.in_ok-add_links_at.ensures
