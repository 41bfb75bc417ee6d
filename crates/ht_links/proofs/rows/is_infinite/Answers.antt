use Rattle.std.proofs.Common.{◌∙◌, refl, ap, subst, Some, true≢false, sym}
use Rattle.std.proofs.lemmas.Option.{slice_get_within}
use Rattle.ht_pair.specs.HeldBases.{IsPlaceAbove}
use Rattle.ht_quasi.specs.declared.quasi.Quasi.{Quasi}
use Rattle.ht_links.proofs.PlaceLaws.{infinite_above, cycle_above}
use Rattle.ht_links.proofs.rows.is_infinite.Goals as goal
use Rattle.ht_links.proofs.rows.is_infinite.Goals.{In-Some}

above : (c : In-Some) → IsPlaceAbove c.args.t.now.quasi.basis.words c.args.word.now c.in-Some.place
above c = subst (λ (q : Quasi). IsPlaceAbove q.basis.words c.args.word.now c.in-Some.place) c.quasi.ensures.quasi c.in-Some.ensures

pub kind-requires : goal.kind-requires
kind-requires c = let a = above (goal.at.kind-requires c).In-Some in slice_get_within c.args.t.now.quasi.basis.words c.in-Some.place a.word a.here

pub returns-in-Cycle : goal.returns-in-Cycle
returns-in-Cycle c = (
  (λ yes. absurd (true≢false (sym yes))),
  (λ infinite. absurd (cycle_above c.args.t.now c.quasi.ensures.typed c.args.word.now c.in-Some.place (above (goal.at.returns-in-Cycle c).In-Some) c.in-Cycle.m (c.kind.ensures.kind ∙ ap Some c.in-Cycle.is) infinite)),
)

pub returns-in_default-kind : goal.returns-in_default-kind
returns-in_default-kind c = (
  (λ yes. infinite_above c.args.t.now c.quasi.ensures.typed c.args.word.now c.in-Some.place (above (goal.at.returns-in_default-kind c).In-Some) c.kind.result.now c.kind.ensures.kind c.in_default-kind.not-Cycle),
  (λ infinite. refl),
)
