use Rattle.std.proofs.Common.{◌∙◌, ap, subst, Some}
use Rattle.std.proofs.lemmas.Option.{slice_get_within}
use Rattle.ht_pair.specs.HeldBases.{IsPlaceAbove}
use Rattle.ht_quasi.specs.declared.quasi.Quasi.{Quasi}
use Rattle.ht_share.proofs.TypedWords.{under_cycle, under_infinite}
use Rattle.ht_share.proofs.sharer.period_over.Goals as goal

pub kind-requires : goal.kind-requires
kind-requires c =
    let above = subst (λ (quasi : Quasi). IsPlaceAbove quasi.basis.words c.args.word.now c.in-Some.place) c.quasi.ensures.quasi c.in-Some.ensures in
    slice_get_within c.args.t.now.quasi.basis.words c.in-Some.place above.word above.here

pub returns-in-Cycle : goal.returns-in-Cycle
returns-in-Cycle c =
    let above = subst (λ (quasi : Quasi). IsPlaceAbove quasi.basis.words c.args.word.now c.in-Some.place) c.quasi.ensures.quasi c.in-Some.ensures in
    under_cycle c.args.t.now c.keeps_kinds.ensures c.args.word.now c.in-Some.place c.in-Cycle.m above (c.kind.ensures.kind ∙ ap Some c.in-Cycle.is)

pub returns-in_default-kind : goal.returns-in_default-kind
returns-in_default-kind c =
    let above = subst (λ (quasi : Quasi). IsPlaceAbove quasi.basis.words c.args.word.now c.in-Some.place) c.quasi.ensures.quasi c.in-Some.ensures in
    under_infinite c.args.t.now c.keeps_kinds.ensures c.args.word.now c.in-Some.place c.kind.result.now above c.kind.ensures.kind c.in_default-kind.not-Cycle
