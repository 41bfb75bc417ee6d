use Rattle.std.proofs.Common.{arith}
use Rattle.ht_local.proofs.CandidateLaws.{all_found}
use Rattle.ht_local.proofs.candidates.candidates.Goals as goal

pub returns-clause-all : goal.returns-clause-all
returns-clause-all c =
    let far = c.loop-index-test.false in
    let end = c.len-index-end.ensures in
    all_found c.args.g.now c.args.l.now c.args.m c.args.by.now c.loop-index.index c.loop-index.marks.items c.loop-index.found (omega arith) c.loop-index.invariant
