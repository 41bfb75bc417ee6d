use Rattle.std.proofs.Common.{◌≡◌, ◌<◌, ◌^◌, ◌∙◌, ℕ, ℤ, List, nat_abs, sym, subst, not, arith, true, false}
use Rattle.std.specs.Str.{bytes_eq}
use Rattle.std.proofs.lemmas.Slice.Eq.{bytes_eq-Decides}
use Rattle.ht_word.specs.Words.{◌·◌}
use Rattle.ht_pair.specs.Orbits.{ShareOrbit}
use Rattle.ht_share.proofs.InfiniteShares.{addresses_along, addresses_behind, few_between}
use Rattle.ht_share.proofs.infinite.only_power.Goals.{then-first-second-via-then-first-second, then-first-second-via-else-first-second+then-ne}
use Rattle.ht_share.proofs.infinite.only_power.Goals as goal
use Rattle.ht_types.proofs.TypedLaws.{typed_base}

pub returns-then-first-second : goal.returns-then-first-second
returns-then-first-second c = λ j carries.
    let first = c.in_ok-first.first in
    let second = c.in_ok-second.second in
    let along = addresses_along (typed_base c.args.t.now c.keeps_kinds.ensures) c.args.u.now c.args.v.now c.in_ok-exit.exit first.at second.at first.rest second.rest first.steps second.steps j c.in_ok-exit.ensures.of_shape c.in_ok-first.ensures c.in_ok-second.ensures carries in
    elim c.then-first-second.branch [
      | then-first-second-via-then-first-second w ↦ w.if-first-second.true along.0
      | then-first-second-via-else-first-second+then-ne w ↦ same (w.as_slice.ensures ∙ along.1 ∙ sym w.as_slice-else-first-second.ensures) (sym w.ne.ensures ∙ w.if-ne.true)
    ]
  where
    same : {xs ys : List ℕ} → xs ≡ ys → not (bytes_eq xs ys) ≡ true → ⊥
    same {xs} {ys} e differ = let equal : bytes_eq xs ys ≡ true = grind (arith, bytes_eq-Decides) in let no : false ≡ true = subst (λ b. not b ≡ true) equal differ in cc

pub returns : goal.returns
returns c =
    let t = c.args.t.now in
    let base = typed_base t c.keeps_kinds.ensures in
    let u = c.args.u.now in
    let v = c.args.v.now in
    let z = c.in_ok-exit.exit in
    let first = c.in_ok-first.first in
    let second = c.in_ok-second.second in
    let few = few_between first.steps second.steps c.in_ok-first.ensures.few c.in_ok-second.ensures.few in
    subst (λ (k : ℤ). (nat_abs k < 2 ^ 122) × ((j : ℤ) → ShareOrbit t.element.shape t.element.rows u v j → j ≡ k) × (z : List ℕ) × ShareOrbit t.element.shape t.element.rows (u · z) (v · z) k) (sym few.0) (
      few.1,
      (λ j carries. (addresses_along base u v z first.at second.at first.rest second.rest first.steps second.steps j c.in_ok-exit.ensures.of_shape c.in_ok-first.ensures c.in_ok-second.ensures carries).2),
      z,
      addresses_behind base (u · z) (v · z) first.at second.at first.rest second.rest first.steps second.steps (omega arith)
          (sym c.as_slice.ensures ∙ same (sym c.ne.ensures ∙ c.if-ne.false) ∙ c.as_slice-else-first-second.ensures) c.in_ok-first.ensures c.in_ok-second.ensures,
    )
  where
    same : {xs ys : List ℕ} → not (bytes_eq xs ys) ≡ false → xs ≡ ys
    same {xs} {ys} e = grind (arith, bytes_eq-Decides)
