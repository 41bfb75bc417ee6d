use Rattle.ht_ask.proofs.TypedLaws.{told_as_ponds, ponds_have_text}
use Rattle.ht_ask.proofs.typed.told_ponds.Goals as goal

pub returns-clause-answer : goal.returns-clause-answer
returns-clause-answer c =
    let typed = c.in_ok-typed.typed in
    told_as_ponds typed.element c.args.element.now typed.quasi typed.kinds c.args.budget c.in_ok-ponds.ponds c.in_ok-typed.ensures.typed.0 c.in_ok-typed.ensures.typed.1 c.in_ok-typed.ensures.within c.in_ok-ponds.ensures

pub returns-clause-text : goal.returns-clause-text
returns-clause-text c =
    let typed = c.in_ok-typed.typed in
    ponds_have_text typed.element c.args.element.now typed.quasi typed.kinds c.in_ok-ponds.ponds c.in_ok-typed.ensures.typed.0 c.in_ok-typed.ensures.typed.1 c.in_ok-ponds.ensures
