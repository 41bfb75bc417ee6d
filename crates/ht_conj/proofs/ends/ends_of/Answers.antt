use Rattle.std.proofs.Common.{◌≡◌, ◌<◌, ◌++◌, ◌∙◌, ℕ, List, Some, get_or, is_lt, length, slice_get, sym, ap, subst, arith, rules}
use Rattle.std.specs.List.Sorted.{IsPermutation}
use Rattle.std.proofs.lemmas.Fn.{always_returns_same}
use Rattle.std.proofs.lemmas.List.{take_all}
use Rattle.std.proofs.lemmas.List.Sorted.{ranks_by}
use Rattle.ht_pair.specs.Atoms.{IsAtom}
use Rattle.ht_counterparts.specs.Ends.{End, end_cmp, end_of, ends_at}
use Rattle.ht_counterparts.proofs.SortedEnds.{end_cmp_total}
use Rattle.ht_conj.specs.OrderedEnds.{AreEndsAt}
use Rattle.ht_conj.proofs.EndLaws.{ends_more, place_within}
use Rattle.ht_conj.proofs.ends.ends_of.Goals as goal

pub loop-place-init : goal.loop-place-init
loop-place-init c = c.new-ends.ensures.items

pub kind-requires : goal.kind-requires
kind-requires c =
    let t = c.args.t.now in
    let is = IsAtom t.element.shape t.element.rows t.quasi.basis.words in
    place_within t c.as_slice-place-items.result.now c.loop-place.place-index (subst is (sym c.as_slice-place-items.ensures) c.requires) c.loop-place-test.true

pub loop-place-preserved : goal.loop-place-preserved
loop-place-preserved c =
    let i = c.loop-place.place-index in
    let kinds = c.args.t.now.kinds in
    let kind = c.kind.result.now in
    let here = subst (λ (places : List ℕ). (i < length places) × (slice_get kinds (get_or places i 0) ≡ Some kind)) c.as_slice-place-items.ensures (c.loop-place-test.true, c.kind.ensures.kind) in
    c.in_ok-add_end.ensures ∙ ap (λ (ends : List End). ends ++ end_of kind) c.loop-place.invariant ∙ ends_more kinds c.args.places.now i kind here.0 here.1

pub returns : goal.returns
returns c =
    let places = c.args.places.now in
    let kinds = c.args.t.now.kinds in
    let read : c.loop-place.ends.items ≡ ends_at kinds places =
    c.loop-place.invariant ∙ ap (ends_at kinds) (take_all c.loop-place.place-index places (omega (arith, c.loop-place-test.false, ap length c.as_slice-place-items.ensures))) in
    let sorted = c.sort_unstable_by.ensures.sorted (λ x y. is_lt (end_cmp x y)) (ranks_by end_cmp_total (λ (e : End). e)) (always_returns_same _ _ _ (λ a r q k. search rules)) in
    subst (AreEndsAt c.args.t.now places) (sym c.from_vec.ensures) (record {
      all = subst (λ (ends : List End). IsPermutation ends c.sort_unstable_by.new.self.items) read c.sort_unstable_by.ensures.permutation;
      sorted = sorted;
    })
