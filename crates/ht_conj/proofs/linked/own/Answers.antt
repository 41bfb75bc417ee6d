use Rattle.std.proofs.Common.{◌≡◌, ◌+◌, ◌<◌, ℕ, List, length, get_or, set, ap, subst, sym, arith}
use Rattle.ht_conj.proofs.OwnerLaws.{IsOwning, owning_none, owning_more}
use Rattle.ht_conj.proofs.linked.own.Goals as goal

pub loop-place-init : goal.loop-place-init
loop-place-init c = owning_none c.args.places.now c.args.index c.args.owners.now

pub loop-place-preserved : goal.loop-place-preserved
loop-place-preserved c =
    let n = c.loop-place.place-index in
    let many : length c.as_slice-place-items.result.now ≡ length c.args.places.now = ap length c.as_slice-place-items.ensures in
    let l : n < length c.args.places.now = omega (arith, c.loop-place-test.true, many) in
    subst (λ (places : List ℕ). IsOwning c.args.places.now c.args.index c.args.owners.now (n + 1) (set c.loop-place.owners (get_or places n 0) c.args.index)) (sym c.as_slice-place-items.ensures)
    (owning_more l (omega (arith, c.requires n 0 l, c.loop-place.auto.owners)) c.loop-place.invariant)

pub returns-clause-own : goal.returns-clause-own
returns-clause-own c = λ k d l.
    let many : length c.as_slice-place-items.result.now ≡ length c.args.places.now = ap length c.as_slice-place-items.ensures in
    c.loop-place.invariant.own k d (omega (arith, c.loop-place-test.false, many)) l

pub returns-clause-other : goal.returns-clause-other
returns-clause-other c = c.loop-place.invariant.other
