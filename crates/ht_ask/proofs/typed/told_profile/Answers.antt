use Rattle.ht_ask.proofs.TypedLaws.{told_as_profile}
use Rattle.ht_ask.proofs.typed.told_profile.Goals as goal

pub returns-clause-answer : goal.returns-clause-answer
returns-clause-answer c =
    let typed = c.in_ok-typed.typed in
    told_as_profile typed.element c.args.element.now typed.quasi typed.kinds c.args.budget c.in_ok-profile.profile c.in_ok-typed.ensures.typed.0 c.in_ok-typed.ensures.typed.1 c.in_ok-typed.ensures.within c.in_ok-profile.ensures
