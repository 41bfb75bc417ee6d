use Rattle.std.proofs.Common.{◌≡◌, ◌<◌, ◌^◌, ◌∙◌, nat_abs, sym, subst, arith, true≢false, Some, to_z, of_z}
use Rattle.std.specs.Int.{w128}
use Rattle.std.proofs.lemmas.Int.{fits_signed_from_abs, to_z-of_z}
use Rattle.ht_pair.specs.Orbits.{ShareOrbit}
use Rattle.ht_types.specs.Shares.{IsShare}
use Rattle.ht_types.proofs.TypedLaws.{typed_base}
use Rattle.ht_share.proofs.InfiniteShares.{share_tested, share_refuted}
use Rattle.ht_share.proofs.infinite.share_infinite.Goals as goal

pub returns-then-branch : goal.returns-then-branch
returns-then-branch c =
    let t = c.args.t.now in
    let u = c.args.u.now in
    let v = c.args.v.now in
    let k = c.in-Some.k in
    let found = rw c.in-Some.is at c.in_ok-k.ensures in
    let few : nat_abs k < 2 ^ 127 = omega (arith, found.0) in
    let is : to_z w128 (of_z w128 k) ≡ k = to_z-of_z w128 k (fits_signed_from_abs w128 k few) in
    subst (λ i. IsShare t.element.shape t.element.rows t.quasi.basis.words u v (Some i)) (sym is)
    (share_tested (typed_base t c.keeps_kinds.ensures) u v k c.requires.first.1 found.0 (subst (ShareOrbit t.element.shape t.element.rows u v) is (c.in_ok-is_shared.ensures.0 c.if-branch.true)))

pub returns-else-branch : goal.returns-else-branch
returns-else-branch c =
    let t = c.args.t.now in
    let u = c.args.u.now in
    let v = c.args.v.now in
    let k = c.in-Some.k in
    let found = rw c.in-Some.is at c.in_ok-k.ensures in
    let few : nat_abs k < 2 ^ 127 = omega (arith, found.0) in
    let is : to_z w128 (of_z w128 k) ≡ k = to_z-of_z w128 k (fits_signed_from_abs w128 k few) in
    share_refuted t.element.shape t.element.rows t.quasi.basis.words u v k found.1 (λ carries. true≢false (sym (c.in_ok-is_shared.ensures.1 (subst (ShareOrbit t.element.shape t.element.rows u v) (sym is) carries)) ∙ c.if-branch.false))
