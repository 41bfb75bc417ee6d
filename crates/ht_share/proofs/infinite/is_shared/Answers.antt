use Rattle.std.proofs.Common.{◌≡◌, ◌≤ℤ◌, ℤ, pos, negsuc, neg_ℤ, Bool, refl, ap, ◌∙◌, sym, subst, arith}
use Rattle.std.specs.Int.{w128}
use Rattle.std.specs.Int.RustNames.{unsigned_abs}
use Rattle.std.proofs.lemmas.Int.{ints, to_z-of_z}
use Rattle.std.proofs.lemmas.Result.{IfOk-weaker}
use Rattle.ht_word.specs.Words.{◌·◌, IsUnderSome}
use Rattle.ht_word.specs.declared.word.Word.{Word}
use Rattle.ht_pair.specs.Orbits.{ShareOrbit}
use Rattle.ht_pair.proofs.CarriesLaws.{carries_back}
use Rattle.ht_ops.proofs.PowerChains.{below_zero}
use Rattle.ht_ops.proofs.Walking.{below_none, from_none}
use Rattle.ht_types.specs.Flows.{IsUnderInfinite}
use Rattle.ht_types.specs.TypedElements.{TypedValue}
use Rattle.ht_types.proofs.TypedLaws.{typed_base}
use Rattle.ht_share.proofs.FollowLaws.{agreed}
use Rattle.ht_share.proofs.infinite.is_shared.Goals as goal

-- a word under the infinite part is under the basis
under_some : (t : TypedValue) (u : Word) → IsUnderInfinite t.element.shape t.element.rows t.quasi.basis.words u → IsUnderSome u t.quasi.basis.words
under_some t u i = record { above = i.above; listed = i.infinite.0; under = i.under }

pub returns-then-k-lt0 : goal.returns-then-k-lt0
returns-then-k-lt0 c =
    let t = c.args.t.now in
    let p = t.element.rows in
    let pair = (typed_base t c.keeps_kinds.ensures).pair in
    let u = c.args.u.now in
    let v = c.args.v.now in
    let n = c.unsigned_abs.result in
    let is : neg_ℤ (pos n) ≡ c.args.k = ap (λ m. neg_ℤ (pos m)) (c.unsigned_abs.ensures.value ∙ ap unsigned_abs (to_z-of_z w128 c.args.k c.ranges.k)) ∙ below_zero c.args.k (below_none c.args.k _ (to_z-of_z w128 c.args.k c.ranges.k) c.if-k-lt0.true) in
    let back : neg_ℤ (neg_ℤ (pos n)) ≡ pos n = omega (arith, ints) in
    let z = c.requires.behind.0 in
    let behind = subst (ShareOrbit t.element.shape p (v · z) (u · z)) back (carries_back t.element.shape p pair (neg_ℤ (pos n)) (u · z) (v · z) (subst (ShareOrbit t.element.shape p (u · z) (v · z)) (sym is) c.requires.behind.1)) in
    let just = agreed t.element.shape p pair t.quasi.basis.words v u (pos n) z (under_some t u c.requires.first.1) behind in
    IfOk-weaker c.leads_under.result _ _
    (λ (yes : Bool) told. (
      (λ y. subst (ShareOrbit t.element.shape p u v) is (carries_back t.element.shape p pair (pos n) v u (just.0 (told.0 y)))),
      (λ shared. told.1 (just.1 (subst (ShareOrbit t.element.shape p v u) back (carries_back t.element.shape p pair (neg_ℤ (pos n)) u v (subst (ShareOrbit t.element.shape p u v) (sym is) shared))))),
    ))
    c.leads_under.ensures

-- a whole number from 0 on is its size
above_zero : (k : ℤ) → pos 0 ≤ℤ k → pos (unsigned_abs k) ≡ k
above_zero (pos k) l = refl
above_zero (negsuc k) l = absurd (omega (arith, ints, l))

pub returns-else-k-lt0 : goal.returns-else-k-lt0
returns-else-k-lt0 c =
    let t = c.args.t.now in
    let p = t.element.rows in
    let u = c.args.u.now in
    let v = c.args.v.now in
    let pair = (typed_base t c.keeps_kinds.ensures).pair in
    let n = c.unsigned_abs-else-k-lt0.result in
    let is : pos n ≡ c.args.k = ap pos (c.unsigned_abs-else-k-lt0.ensures.value ∙ ap unsigned_abs (to_z-of_z w128 c.args.k c.ranges.k)) ∙ above_zero c.args.k (from_none c.args.k _ (to_z-of_z w128 c.args.k c.ranges.k) c.if-k-lt0.false) in
    let z = c.requires.behind.0 in
    let just = agreed t.element.shape p pair t.quasi.basis.words u v (pos n) z (under_some t v c.requires.second.1) (subst (ShareOrbit t.element.shape p (u · z) (v · z)) (sym is) c.requires.behind.1) in
    IfOk-weaker c.leads_under-else-k-lt0.result _ _ (λ (yes : Bool) told. ((λ y. subst (ShareOrbit t.element.shape p u v) is (just.0 (told.0 y))), (λ shared. told.1 (just.1 (subst (ShareOrbit t.element.shape p u v) (sym is) shared))))) c.leads_under-else-k-lt0.ensures
