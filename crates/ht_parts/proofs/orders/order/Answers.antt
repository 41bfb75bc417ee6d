use Rattle.std.proofs.Common.{arith, refl}
use Rattle.ht_parts.proofs.CycleTests.{none_infinite, all_cycles, infinite_has_none}
use Rattle.ht_parts.proofs.OrderLaws.{order_from_lengths, order_infinite}
use Rattle.ht_parts.proofs.orders.order.Goals as goal

pub returns-then-not-is_periodic : goal.returns-then-not-is_periodic
returns-then-not-is_periodic c =
    let t = c.args.t.now in
    record {
      order = order_infinite t.element.shape t.element.rows c.keeps_kinds.ensures.canonical.pair t.quasi.basis.words c.keeps_kinds.ensures.quasinormal.least.semi_normal
          (λ all. let passed = c.is_periodic.ensures.empty.1 (none_infinite t.element.shape t.element.rows t.quasi.basis.words all) in absurd cc);
      infinite = ((λ e. c.is_periodic.ensures.some c.if-not-is_periodic.true), (λ some. refl));
    }

pub returns-in-Some : goal.returns-in-Some
returns-in-Some c =
    let t = c.args.t.now in
    let none = c.is_periodic.ensures.empty.0 c.if-not-is_periodic.false in
    record {
      order = (
        order_from_lengths t.element.shape t.element.rows c.keeps_kinds.ensures.canonical.pair t.quasi.basis.words c.keeps_kinds.ensures.quasinormal.least.semi_normal.basis (all_cycles t.element t.quasi t.kinds c.keeps_kinds.ensures none) c.in-Some.k c.in-Some.ensures.0,
        (λ wide. let narrow = c.in-Some.ensures.1 in omega (arith, narrow, wide)),
      );
      infinite = ((λ e. absurd cc), (λ some. absurd (infinite_has_none t.element.shape t.element.rows t.quasi.basis.words none some)));
    }

pub returns-in-None : goal.returns-in-None
returns-in-None c =
    let t = c.args.t.now in
    let k = c.in-None.ensures in
    let none = c.is_periodic.ensures.empty.0 c.if-not-is_periodic.false in
    record {
      order = (
        k.0,
        order_from_lengths t.element.shape t.element.rows c.keeps_kinds.ensures.canonical.pair t.quasi.basis.words c.keeps_kinds.ensures.quasinormal.least.semi_normal.basis (all_cycles t.element t.quasi t.kinds c.keeps_kinds.ensures none) k.0 k.1,
        k.2,
      );
      infinite = ((λ e. absurd cc), (λ some. absurd (infinite_has_none t.element.shape t.element.rows t.quasi.basis.words none some)));
    }
