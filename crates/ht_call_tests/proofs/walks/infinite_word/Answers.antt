use Rattle.std.proofs.Common.{subst}
use Rattle.ht_pair.specs.HeldBases.{IsPlaceAbove}
use Rattle.ht_quasi.specs.declared.quasi.Quasi.{Quasi}
use Rattle.ht_share.proofs.TypedWords.{under_infinite}
use Rattle.ht_call_tests.proofs.walks.infinite_word.Goals as goal

pub returns-clause-infinite : goal.returns-clause-infinite
returns-clause-infinite g c =
    let above = subst (λ (quasi : Quasi). IsPlaceAbove quasi.basis.words c.in_ok-word.word c.in-Some.place) c.quasi.ensures.quasi c.in-Some.ensures in
    under_infinite c.args.typed.now c.keeps_kinds.ensures c.in_ok-word.word c.in-Some.place c.kind.result.now above c.kind.ensures.kind c.in_default-kind.not-Cycle
