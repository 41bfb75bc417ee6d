use Rattle.std.proofs.Common.{[], ◌∷◌, refl, arith}
use Rattle.std.proofs.lemmas.List.{length-append}
use Rattle.ht_local.proofs.BorderLaws.{borders_begun, borders_more, none_shorter}
use Rattle.ht_local.proofs.borders.borders.Goals as goal

pub loop-count-init : goal.loop-count-init
loop-count-init c = rw (c.in_ok-push.ensures.items, c.new-table.ensures.items) (refl, borders_begun c.args.by.now, none_shorter c.args.by.now _)

pub loop-count-preserved : goal.loop-count-preserved
loop-count-preserved c =
    let b = c.loop-count.invariant in
    let low = c.loop-count.auto.count in
    let high = c.loop-count-test.true in
    let more = borders_more c.args.by.now c.loop-count.table.items c.loop-count.count c.loop-count.held c.advanced-held.result (omega arith) (omega arith) b.0 b.1 b.2 c.advanced-held.ensures.holds in
    rw c.in_ok-push-2.ensures.items (omega (arith, b.0, length-append c.loop-count.table.items (c.advanced-held.result ∷ [])), more.borders, more.front)
