use Rattle.ht_ask.proofs.TypedLaws.{told_as_order}
use Rattle.ht_ask.proofs.typed.told_order.Goals as goal

pub returns-clause-answer : goal.returns-clause-answer
returns-clause-answer c =
    let typed = c.in_ok-typed.typed in
    told_as_order typed.element c.args.element.now typed.quasi typed.kinds c.args.budget c.order.result c.answer_to_order.result c.in_ok-typed.ensures.typed.0 c.in_ok-typed.ensures.typed.1 c.in_ok-typed.ensures.within c.order.ensures.order c.answer_to_order.ensures.answer
