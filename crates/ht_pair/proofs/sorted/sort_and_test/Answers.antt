use Rattle.ht_pair.proofs.Sorting.{heads_of_shape, heads_tested}
use Rattle.ht_pair.proofs.sorted.sort_and_test.Goals as goal

pub is_ascending_basis-is_basis-requires : goal.is_ascending_basis-is_basis-requires
is_ascending_basis-is_basis-requires g c =
    rw c.as_slice.ensures (heads_of_shape c.args.shape (g.K.Heads.head c.args.by) c.args.items c.in_ok-sorted.sorted c.in_ok-sorted.ensures.permutation c.requires)

pub returns : goal.returns
returns g c =
    heads_tested c.args.shape (g.K.Heads.head c.args.by) c.args.items c.in_ok-sorted.sorted c.is_ascending_basis-is_basis.result c.in_ok-sorted.ensures.permutation c.in_ok-sorted.ensures.sorted
    (rw c.as_slice.ensures at c.is_ascending_basis-is_basis.ensures)
