use Rattle.std.proofs.Common.{◌≡◌, ◌∙◌, refl, sym, ap, length, List, ℕ, arith}
use Rattle.std.proofs.lemmas.Iterator.{items_from_collect, YieldsList-from_range}
use Rattle.std.proofs.lemmas.Result.{IfOk-at_ok}
use Rattle.std.proofs.lemmas.List.Edits.{length-swap}
use Rattle.ht_sample.specs.Shuffles.{places_to, shuffled}
use Rattle.ht_sample.proofs.ShuffleLaws.{length-places, shuffled_back, shuffled_end}
use Rattle.ht_sample.proofs.order.shuffled_places.Goals as goal

pub loop-place-init : goal.loop-place-init
unfolding places_to
loop-place-init c =
    let are : c.in_ok-order.order.items ≡ places_to 4000 = IfOk-at_ok (λ v. v.items ≡ places_to 4000) c.in_ok-order.was (items_from_collect c.collect.result c.collect.ensures.ran (YieldsList-from_range 0 4000 4000 refl refl)) in
    record { within = omega (arith, ap (λ (list : List ℕ). length list) are, length-places 4000); left = ap (λ (list : List ℕ). shuffled 3999 c.args.draws.now.state list) are }

pub loop-place-preserved : goal.loop-place-preserved
loop-place-preserved c = record {
  within = omega (arith, c.loop-place.invariant.within, ap (λ (list : List ℕ). length list) c.swap.ensures.items, length-swap c.loop-place.order.items c.loop-place.place c.draw-other.result);
  left = shuffled_back c.loop-place.place c.loop-place.draws.state c.loop-place.order.items c.swap.new.self.items c.draw-other.result c.draw-other.new.self.state c.loop-place-test.true c.draw-other.ensures.drawn c.draw-other.ensures.state c.swap.ensures.items ∙ c.loop-place.invariant.left;
}

pub returns : goal.returns
returns c = sym (shuffled_end c.loop-place.place c.loop-place.draws.state c.loop-place.order.items c.loop-place-test.false) ∙ c.loop-place.invariant.left
