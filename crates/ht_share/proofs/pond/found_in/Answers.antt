use Rattle.std.proofs.Common.{◌≡◌, ◌+◌, ◌-◌, ◌<◌, ℕ, ◌∷◌, length, drop, sym, ap, ◌∙◌, subst₂, arith}
use Rattle.std.proofs.lemmas.List.{drop_more}
use Rattle.ht_share.specs.InnerWords.{IsInner}
use Rattle.ht_share.specs.PondLists.{AreFound}
use Rattle.ht_share.proofs.FoundLaws.{found_more}
use Rattle.ht_share.proofs.pond.found_in.Goals as goal
use Rattle.ht_share.proofs.pond.found_in.Goals.{After-index-inner-place}

inner_here : (c : After-index-inner-place) → IsInner c.args.t.now.element.shape c.args.t.now.element.rows c.args.t.now.quasi.basis.words c.index-inner-place.result
inner_here c = (c.requires.same c.index-inner-place.result).0 (c.loop-place.place - 1, omega (arith, c.loop-place.invariant.0, c.loop-place-test.true), sym c.index-inner-place.is)

pub pond_of-requires-clause-inner : goal.pond_of-requires-clause-inner
pond_of-requires-clause-inner c = inner_here (goal.at.pond_of-requires-clause-inner c).After-index-inner-place

pub loop-place-preserved : goal.loop-place-preserved
loop-place-preserved c =
    let t = c.args.t.now in
    let X = t.quasi.basis.words in
    let words = c.args.inner.now in
    let place = c.loop-place.place - 1 in
    let u = c.index-inner-place.result in
    let within : place < length words = omega (arith, c.loop-place.invariant.0, c.loop-place-test.true) in
    let next : place + 1 ≡ c.loop-place.place = omega (arith, c.loop-place-test.true) in
    let split : drop place words ≡ u ∷ drop c.loop-place.place words = drop_more words place u within ∙ ap (λ w. w ∷ drop (place + 1) words) (sym c.index-inner-place.is) ∙ ap (λ (n : ℕ). u ∷ drop n words) next in (
      omega (arith, within),
      subst₂ (AreFound t.element.shape t.element.rows X) (sym split) (sym c.in_ok-push.ensures.items)
          (found_more t.element.shape t.element.rows X (drop c.loop-place.place words) c.loop-place.found.items u c.in_ok-pond.pond (inner_here (goal.at.loop-place-preserved c).After-index-inner-place) c.in_ok-pond.ensures c.loop-place.invariant.1),
    )
