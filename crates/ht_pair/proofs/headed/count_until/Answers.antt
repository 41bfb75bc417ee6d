use Rattle.std.proofs.Common.{rules}
use Rattle.std.proofs.lemmas.Fn.{always_returns_same}
use Rattle.ht_pair.proofs.RowSearch.{is_until, parted_at}
use Rattle.ht_pair.proofs.headed.count_until.Goals as goal

pub returns-clause-point : goal.returns-clause-point
returns-clause-point g c =
    c.partition_point.ensures.partitioned (is_until (g.K.Heads.head c.args.by) c.args.word.now) (always_returns_same _ _ _ (λ a r q k. search rules)) (parted_at (g.K.Heads.head c.args.by) c.args.items.now c.args.word.now c.requires)
