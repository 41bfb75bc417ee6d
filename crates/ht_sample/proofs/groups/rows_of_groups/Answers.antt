use Rattle.std.proofs.Common.{◌∙◌, ◌++◌, ◌*◌, ◌+◌, ◌-◌, List, ap, sym, take, drop, arith}
use Rattle.ht_pair.specs.declared.row.Row.{Row}
use Rattle.ht_sample.specs.Groups.{group_rows}
use Rattle.ht_sample.proofs.GroupLaws.{groups_none, groups_more}
use Rattle.ht_sample.proofs.groups.rows_of_groups.Goals as goal

pub loop-number-init : goal.loop-number-init
loop-number-init c = c.new-rows.ensures ∙ sym (groups_none c.args.words.now)

pub loop-number-preserved : goal.loop-number-preserved
loop-number-preserved c =
    let W = c.args.words.now in
    let k = c.loop-number.number in
    let n = 8 * k + 8 - 8 * k in
    c.in_ok-add_group.ensures ∙ ap (λ (rows : List Row). rows ++ group_rows k (take n (drop (8 * k) W))) c.loop-number.invariant ∙ sym (groups_more k n W (omega arith))
