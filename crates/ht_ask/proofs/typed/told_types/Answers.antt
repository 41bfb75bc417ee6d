use Rattle.std.proofs.Common.{◌∙◌, ap}
use Rattle.ht_quasi.specs.declared.quasi.Quasi.{Quasi}
use Rattle.ht_ask.proofs.TypedLaws.{told_as_types, types_have_text}
use Rattle.ht_ask.proofs.typed.told_types.Goals as goal

pub returns-clause-answer : goal.returns-clause-answer
returns-clause-answer c =
    let typed = c.in_ok-typed.typed in
    told_as_types c.args.element.now typed.quasi typed.kinds c.into_kinds-kinds.result c.args.budget c.in_ok-words.words c.in_ok-typed.ensures.typed.1 c.in_ok-typed.ensures.within
    (c.in_ok-words.ensures ∙ c.as_slice.ensures ∙ c.words.ensures.words ∙ ap (λ (quasi : Quasi). quasi.basis.words) c.quasi.ensures.quasi) c.into_kinds-kinds.ensures

pub returns-clause-text : goal.returns-clause-text
returns-clause-text c =
    let typed = c.in_ok-typed.typed in
    types_have_text c.args.element.now typed.quasi typed.kinds c.into_kinds-kinds.result c.in_ok-words.words c.in_ok-typed.ensures.typed.1
    (c.in_ok-words.ensures ∙ c.as_slice.ensures ∙ c.words.ensures.words ∙ ap (λ (quasi : Quasi). quasi.basis.words) c.quasi.ensures.quasi) c.into_kinds-kinds.ensures
