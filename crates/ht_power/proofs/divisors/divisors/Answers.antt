use Rattle.std.proofs.Common.{arith}
use Rattle.std.proofs.lemmas.Nat.Gcd.{dvd_of_mod-eq-zero, mod-eq-zero_of_dvd}
use Rattle.ht_power.proofs.DivisorLaws.{divisors_none, divisors_more, divisors_same}
use Rattle.ht_power.proofs.divisors.divisors.Goals as goal
use Rattle.ht_power.proofs.divisors.divisors.Goals.{then-number-d-eq0+in_ok-push, else-number-d-eq0}

pub loop-d-init : goal.loop-d-init
loop-d-init c = record { divisors = rw c.new-divisors.ensures.items (divisors_none c.args.number); within = omega arith }

pub loop-d-preserved : goal.loop-d-preserved
loop-d-preserved c =
    let number = c.args.number in
    let d = c.loop-d.d in
    record {
      divisors = elim c.if-number-d-eq0.branch [
        | then-number-d-eq0+in_ok-push w ↦ rw (w.divisors-is, w.in_ok-push.ensures.items) (divisors_more number d c.loop-d.divisors.items c.loop-d.auto.d (dvd_of_mod-eq-zero d w.if-number-d-eq0.true) c.loop-d.invariant.divisors)
        | else-number-d-eq0 w ↦ rw w.divisors-is (divisors_same number d c.loop-d.divisors.items (λ over. w.if-number-d-eq0.false (mod-eq-zero_of_dvd d over)) c.loop-d.invariant.divisors)
      ];
      within = omega (arith, c.loop-d-test.true, c.from-d-end.ensures);
    }

pub returns-clause-ascending : goal.returns-clause-ascending
returns-clause-ascending c = c.loop-d.invariant.divisors.ascending

pub returns-clause-each : goal.returns-clause-each
returns-clause-each c = λ d.
    let each = c.loop-d.invariant.divisors.each d in (
      (λ listed. let is = each.0 listed in (is.0, omega (arith, is.0, is.1, c.loop-d.invariant.within), is.2)),
      (λ (low, high, over). each.1 (low, omega (arith, c.loop-d-test.false, c.from-d-end.ensures, high), over)),
    )
