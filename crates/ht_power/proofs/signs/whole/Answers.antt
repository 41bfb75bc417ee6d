use Rattle.ht_power.proofs.CommonOrders.{first_wide, second_wide, least_wide, first_product_wide, second_product_wide, whole_told}
use Rattle.ht_power.proofs.signs.whole.Goals as goal

pub returns-in_err-first : goal.returns-in_err-first
returns-in_err-first c = rw c.from_residual.ensures (first_wide c.args.f.now c.args.g.now c.requires.shape c.args.i c.args.j c.periodic_order-second.result c.in_err-first.ensures c.periodic_order-second.ensures)

pub returns-in_err-second : goal.returns-in_err-second
returns-in_err-second c = rw c.from_residual-in_err-second.ensures (second_wide c.args.f.now c.args.g.now c.requires.shape c.args.i c.args.j c.in_ok-first.ensures.0 c.in_err-second.ensures)

pub returns-in_err-order : goal.returns-in_err-order
returns-in_err-order c =
    let whole = c.in_err-order.ensures in
    rw c.from_residual-in_err-order.ensures (least_wide c.args.f.now c.args.g.now c.requires.shape c.args.i c.args.j c.in_ok-first.ensures.0 c.in_ok-second.ensures.0 whole.1 whole.2)

pub returns-in_err-times : goal.returns-in_err-times
returns-in_err-times c =
    rw c.from_residual-in_err-times.ensures
    (first_product_wide c.args.f.now c.args.g.now c.requires.shape c.args.i c.args.j c.in_ok-first.ensures.0 c.in_ok-second.ensures.0 c.in_ok-order.ensures.0 c.in_err-times.ensures)

pub returns-in_err-times-2 : goal.returns-in_err-times-2
returns-in_err-times-2 c =
    rw c.from_residual-in_err-times-2.ensures
    (second_product_wide c.args.f.now c.args.g.now c.requires.shape c.args.i c.args.j c.in_ok-first.ensures.0 c.in_ok-second.ensures.0 c.in_ok-order.ensures.0 c.in_err-times-2.ensures)

pub returns : goal.returns
returns c = whole_told c.args.f.now c.args.g.now c.requires.shape c.args.i c.args.j c.in_ok-first.ensures.0 c.in_ok-second.ensures.0 c.in_ok-order.ensures.0 c.in_ok-order.ensures.1 c.in_ok-times.ensures c.in_ok-times-2.ensures
