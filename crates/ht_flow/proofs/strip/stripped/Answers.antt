use Rattle.std.proofs.Common.{arith}
use Rattle.ht_flow.proofs.StripLaws.{front_stripped, front_absent, begins_more, some_shorter}
use Rattle.ht_flow.proofs.strip.stripped.Goals as goal

pub stripping-preserved : goal.stripping-preserved
stripping-preserved c =
    let found = c.in-Some.ensures.cases in
    let is = front_stripped c.stripping.left.now c.args.by.now c.in-Some.shorter.now found.0 found.1 in
    let less = some_shorter c.args.by.now c.stripping.left.now c.in-Some.shorter.now c.requires.some is in
    let so_far = c.stripping.invariant.0 in
    (omega arith, begins_more c.stripping.times c.args.by.now c.args.letters.now c.stripping.left.now c.in-Some.shorter.now c.stripping.invariant.1 is)

pub returns-clause-short : goal.returns-clause-short
returns-clause-short c = λ rest. front_absent c.stripping.left.now c.args.by.now rest c.in_default.ensures.cases
