use Rattle.std.proofs.Common.{rules}
use Rattle.std.proofs.lemmas.Fn.{always_returns_same}
use Rattle.ht_pair.proofs.RowSearch.{is_before, parted_before}
use Rattle.ht_pair.proofs.headed.first_under.Goals as goal

pub returns-clause-point : goal.returns-clause-point
returns-clause-point c =
    c.partition_point.ensures.partitioned (is_before c.args.word.now) (always_returns_same _ _ _ (λ a r q k. search rules)) (parted_before c.args.rows.now c.args.word.now c.requires)
