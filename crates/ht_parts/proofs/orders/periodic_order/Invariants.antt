use Rattle.std.proofs.Common.{take, ◌<◌, ◌^◌}
use Rattle.ht_pair.specs.Orders.{IsPeriodicOrder}
use Rattle.ht_parts.proofs.orders.periodic_order.Given as goal

abbrev pub invariant-loop-place : goal.invariant-loop-place
invariant-loop-place l = record { joined : IsPeriodicOrder l.t.element.shape l.t.element.rows (take l.place l.t.quasi.basis.words) l.order; narrow : l.order < 2 ^ 127 }
