use Rattle.std.proofs.Common.{◌≡◌, length, sym, ◌∙◌, subst, subst₂, arith}
use Rattle.std.proofs.lemmas.List.{nil_from_length}
use Rattle.std.specs.Vec.Iter.{into_iter_items}
use Rattle.ht_pair.proofs.Canonical.{AreMergedUpTo, ordered_table, none_merged, one_more_merged, all_merged}
use Rattle.ht_pair.proofs.reduce.merge_table.Goals as goal

pub loop-row-init : goal.loop-row-init
loop-row-init c =
    subst₂ (AreMergedUpTo c.args.shape c.args.rows) (sym c.new-merged.ensures.items) (sym (c.into_iter-row-iterator.ensures.into_iter_gives.0 ∙ c.into_vec-row-items.ensures))
    (none_merged c.args.shape c.args.rows)

pub loop-row-preserved : goal.loop-row-preserved
loop-row-preserved c =
    one_more_merged c.args.shape c.args.rows c.loop-row.merged.items (into_iter_items c.next.new.self) c.add_row.new.merged.items c.in-Some.row
    (ordered_table c.args.shape c.args.rows c.requires)
    (subst (AreMergedUpTo c.args.shape c.args.rows c.loop-row.merged.items) c.in-Some.ensures.steps.0 c.loop-row.invariant)
    c.in_ok-add_row.ensures

pub returns : goal.returns
returns c =
    let none : length (into_iter_items c.loop-row.row-iterator) ≡ 0 = omega (arith, c.loop-row.row-iterator.rest.ok.0, c.in-None.ensures.steps.0) in
    all_merged c.args.shape c.args.rows c.from_vec.result (ordered_table c.args.shape c.args.rows c.requires)
    (subst₂ (AreMergedUpTo c.args.shape c.args.rows) (sym c.from_vec.ensures) (nil_from_length (into_iter_items c.loop-row.row-iterator) none) c.loop-row.invariant)
