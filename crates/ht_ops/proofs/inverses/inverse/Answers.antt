use Rattle.std.proofs.Common.{Err, ap}
use Rattle.ht_pair.specs.declared.fault.OpFault.{OpFault}
use Rattle.ht_pair.specs.Sizes.{IsLarge}
use Rattle.ht_ops.proofs.Faults.{only_memory}
use Rattle.ht_ops.proofs.Turning.{turned_is_pair, turned_not_large, turned_canonical}
use Rattle.ht_ops.proofs.inverses.inverse.Goals as goal

pub sort_pair-requires : goal.sort_pair-requires
sort_pair-requires c = turned_is_pair c.args.a.now.shape c.shape-shape.result c.args.a.now.rows c.in_ok-rows.field-0 c.in_ok-rows-2.rows c.shape-shape.ensures c.in_ok-rows.ensures.rows c.in_ok-rows-2.ensures c.rows.ensures.canonical.pair

pub no_memory-requires : goal.no_memory-requires
no_memory-requires c =
    only_memory c.in-Err.fault (IsLarge c.shape-shape.result c.in_ok-sorted.sorted) (λ count letters is. c.in-Err.ensures.large count letters (ap (λ (f : OpFault). Err f) is)) (λ count letters.
    turned_not_large c.args.a.now.shape c.shape-shape.result c.args.a.now.rows c.in_ok-rows.field-0 c.in_ok-rows-2.rows c.in_ok-sorted.sorted count letters c.shape-shape.ensures c.in_ok-rows.ensures.rows c.in_ok-rows-2.ensures
    c.rows.ensures.canonical.pair c.rows.ensures.small c.in_ok-sorted.ensures.permuted)

pub returns-in-Ok : goal.returns-in-Ok
returns-in-Ok c =
    turned_canonical c.args.a.now.shape c.shape-shape.result c.args.a.now.rows c.in_ok-rows.field-0 c.in_ok-rows-2.rows c.in_ok-sorted.sorted c.in-Ok.element c.shape-shape.ensures c.in_ok-rows.ensures.rows
    c.in_ok-rows-2.ensures c.rows.ensures.canonical.pair c.in_ok-sorted.ensures.permuted c.in-Ok.ensures.canonical
