use Rattle.std.proofs.Common.{◌≡◌, Some, slice_get, subst, sym}
use Rattle.ht_word.specs.declared.word.Word.{Word}
use Rattle.ht_types.specs.Flows.{power_in}
use Rattle.ht_types.specs.WordSteps.{HasStep, LeadsTo}
use Rattle.ht_local.proofs.WayLaws.{place_within, next_place}
use Rattle.ht_local.proofs.values.next_from.Goals as goal

pub kind-requires : goal.kind-requires
kind-requires c = place_within c.args.f.now c.keeps_kinds.ensures c.args.k.now c.requires.atom c.args.index c.at-place.result.now c.at-place.ensures

pub step_in-requires : goal.step_in-requires
step_in-requires c = place_within c.args.f.now c.keeps_kinds.ensures c.args.k.now c.requires.atom c.args.index c.at-place.result.now c.at-place.ensures

pub returns : goal.returns
returns c =
    let t = c.args.f.now in
    let step = c.in-Leads in
    let leads : (x : Word) → slice_get t.quasi.basis.words c.at-place.result.now ≡ Some x → LeadsTo t.element.shape t.element.rows t.quasi.basis.words (power_in c.direction_of-direction.result 1) x step.to c.as_slice.result.now = λ x h.
    subst (LeadsTo t.element.shape t.element.rows t.quasi.basis.words (power_in c.direction_of-direction.result 1) x step.to) (sym c.as_slice.ensures)
    (subst (HasStep t.element.shape t.element.rows t.quasi.basis.words (power_in c.direction_of-direction.result 1) x) step.is (c.step_in.ensures x h)) in
    next_place t c.keeps_kinds.ensures c.args.k.now c.requires.atom c.direction_of-direction.result c.args.index c.at-place.result.now step.to c.as_slice.result.now c.at-place.ensures leads c.in_ok-to.to c.in_ok-to.ensures
