use Rattle.std.proofs.Common.{◌+◌, ◌-◌, ◌%◌, ◌<◌, arith}
use Rattle.ht_num.proofs.ChainLaws.{length-chain_step, chain_last, chain_before_last, longer_chain, chain_front}
use Rattle.ht_num.proofs.chain.chain_at.Goals as goal
use Rattle.ht_num.proofs.chain.chain_at.Goals.{else-rest-eq1-via-then-rest-eq1+else-i-len, else-rest-eq1-via-else-rest-eq1}

pub returns-then-i-len : goal.returns-then-i-len
returns-then-i-len c =
    let rest = c.loop-len.rest in
    let inv = c.loop-len.invariant in
    chain_before_last rest c.args.i _ inv.3.0 (longer_chain rest inv.0 (omega (arith, inv.1, c.loop-len-test.true))) c.if-rest-eq1.true inv.3.1 (omega (arith, inv.1, c.if-i-len.true))

pub loop-len-preserved : goal.loop-len-preserved
loop-len-preserved c =
    let rest = c.loop-len.rest in
    let inv = c.loop-len.invariant in
    let two = longer_chain rest inv.0 (omega (arith, inv.1, c.loop-len-test.true)) in
    let inside : c.args.i < c.loop-len.len - (1 + rest % 2) = elim c.else-rest-eq1.branch [
      | else-rest-eq1-via-then-rest-eq1+else-i-len w ↦ omega (arith, w.if-rest-eq1, w.if-i-len, c.loop-len-test.true)
      | else-rest-eq1-via-else-rest-eq1 w ↦ omega (arith, w.if-rest-eq1, c.loop-len-test.true)
    ] in
    (omega arith, omega (arith, inv.1, length-chain_step rest two), inside, chain_front rest _ inv.3.0 two inv.3.1)

pub returns : goal.returns
returns c =
    let inv = c.loop-len.invariant in
    chain_last c.loop-len.rest c.args.i _ inv.3.0 inv.0 inv.3.1 (omega (arith, inv.1, inv.2, c.loop-len-test.false))
