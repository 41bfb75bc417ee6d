use Rattle.ht_share.proofs.InfiniteShares.{parts_apart}
use Rattle.ht_share.proofs.sharer.SharerSharing.share.Goals as goal
use Rattle.ht_types.proofs.TypedLaws.{typed_base}

pub returns-in-Some-period_over : goal.returns-in-Some-period_over
returns-in-Some-period_over c =
    parts_apart (typed_base c.args.self.now.t.now c.keeps_kinds.ensures) c.args.u.now c.args.v.now c.in-Some-period_over.field-0 c.in_default.ensures c.in-Some-period_over.ensures
