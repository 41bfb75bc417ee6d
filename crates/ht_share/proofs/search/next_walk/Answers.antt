use Rattle.ht_share.proofs.search.next_walk.Goals as goal
use Rattle.ht_quasi.proofs.RoundLaws.{something_at}

pub unreachable-requires : goal.unreachable-requires
unreachable-requires c =
    let x = something_at c.args.t.now.quasi.basis.words c.args.walk.now.to c.requires.place in
    let on = c.requires.under x.0 x.1 in
    let splits = rw c.in_default.is at (c.in_ok-to.ensures x.0 x.1) in
    splits on.to on.carries
