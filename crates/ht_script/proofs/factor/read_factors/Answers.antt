use Rattle.std.proofs.Common.{◌≡◌, ◌≢◌, length, arith}
use Rattle.ht_script.proofs.FactorLists.{goes_on, comes_from, no_factors, only_none, all_read, one_more}
use Rattle.ht_script.proofs.factor.read_factors.Goals as goal

pub returns-in_default-2 : goal.returns-in_default-2
returns-in_default-2 c =
    no_factors (length c.loop-token.factors) c.loop-token.left.now c.args.bytes.now c.in-Some.field-0-0 c.in-Some.token.now c.in-Some.rest.now c.loop-token.invariant.all c.in-Some.ensures (rw c.in_default-2.is at c.in_ok-factor.ensures)

pub loop-token-preserved : goal.loop-token-preserved
loop-token-preserved c =
    let is_factor = rw c.in-Some-2.is at c.in_ok-factor.ensures in
    record {
      read = goes_on c.loop-token.factors c.push.new.self c.in-Some-2.factor c.loop-token.left.now c.args.bytes.now c.in-Some.field-0-0 c.in-Some.token.now c.in-Some.rest.now c.loop-token.invariant.read c.in-Some.ensures is_factor c.in_ok-push.ensures.ok;
      all = comes_from (length c.loop-token.factors) (length c.push.new.self) c.loop-token.left.now c.args.bytes.now c.in-Some.field-0-0 c.in-Some.token.now c.in-Some.rest.now c.loop-token.invariant.all c.in-Some.ensures
          (one_more c.loop-token.factors c.push.new.self c.in-Some-2.factor c.in_ok-push.ensures.ok);
    }

pub returns-then-len-eq0 : goal.returns-then-len-eq0
returns-then-len-eq0 c =
    let none : length c.loop-token.factors ≡ 0 = omega arith in
    only_none (length c.loop-token.factors) c.loop-token.left.now c.args.bytes.now c.loop-token.invariant.all c.in_default.ensures none

pub returns : goal.returns
returns c =
    let some : length c.loop-token.factors ≢ 0 = λ e. c.if-len-eq0.false (omega arith) in
    all_read c.loop-token.factors c.loop-token.left.now c.args.bytes.now c.loop-token.invariant.read c.in_default.ensures some
