use Rattle.ht_links.proofs.ListingLaws.{end_skipped}
use Rattle.ht_links.proofs.PlaceLaws.{no_end}
use Rattle.ht_links.proofs.ends.add_links_at.Goals as goal

pub add_links_of-requires-clause-end : goal.add_links_of-requires-clause-end
add_links_of-requires-clause-end c = λ x here. (c.in-Attractor.m, c.in-Attractor.by, rw c.in-Attractor.is at (c.kind.ensures.typed.kinds_are.each c.args.place x c.kind.result.now here c.kind.ensures.kind))

pub add_links_of-requires-in-Repeller-clause-end : goal.add_links_of-requires-in-Repeller-clause-end
add_links_of-requires-in-Repeller-clause-end c = λ x here. (c.in-Repeller.m, c.in-Repeller.by, rw c.in-Repeller.is at (c.kind.ensures.typed.kinds_are.each c.args.place x c.kind.result.now here c.kind.ensures.kind))

pub returns-in_default : goal.returns-in_default
returns-in_default c = end_skipped c.args.t.now c.args.place c.args.links.now (no_end c.args.t.now c.kind.ensures.typed c.args.place c.kind.result.now c.kind.ensures.kind c.in_default.not-Attractor c.in_default.not-Repeller)
