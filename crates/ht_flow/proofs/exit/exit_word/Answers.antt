use Rattle.ht_word.specs.Words.{◌·◌}
use Rattle.ht_flow.proofs.FlowingLaws.{walk_flows}
use Rattle.ht_flow.proofs.exit.exit_word.Goals as goal

pub returns-clause-flows : goal.returns-clause-flows
returns-clause-flows c = λ z hz.
    let t = c.args.t.now in
    let exit = c.in_ok-letters.field-0 in
    let e = c.in_ok-letters.ensures in
    walk_flows {shape = t.element.shape} {p = t.element.rows} {X = t.quasi.basis.words} (c.args.word.now · exit.letters) e.above (record { steps = exit.steps; to = exit.to; rest = exit.rest }) z hz e.walked e.ends
