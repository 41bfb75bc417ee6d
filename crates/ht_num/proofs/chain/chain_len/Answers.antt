use Rattle.std.proofs.Common.{arith}
use Rattle.ht_num.proofs.ChainLaws.{length-chain_step, chain_short}
use Rattle.ht_num.proofs.chain.chain_len.Goals as goal

pub overflow_add-len-in-loop-rest : goal.overflow_add-len-in-loop-rest
overflow_add-len-in-loop-rest c = omega (arith, chain_short c.args.k c.requires.high, c.loop-rest.invariant.1)

pub loop-rest-preserved : goal.loop-rest-preserved
loop-rest-preserved c = (omega (arith, c.loop-rest-test.true), omega (arith, c.loop-rest.invariant.1, length-chain_step c.loop-rest.rest c.loop-rest-test.true))
