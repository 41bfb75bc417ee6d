use Rattle.std.proofs.Common.{◌≡◌, ◌∙◌, List, ℕ, Some, true, false, not, sym, ap, subst, arith}
use Rattle.std.specs.Str.{bytes_eq}
use Rattle.std.proofs.lemmas.Slice.Eq.{bytes_eq-Decides}
use Rattle.ht_local.proofs.FrontLaws.{halves_are}
use Rattle.ht_local.proofs.front.front_of.Goals.{then-ne-via-then-ne, then-ne-via-else-ne+then-ne-2}
use Rattle.ht_local.proofs.front.front_of.Goals as goal

differ : {xs ys : List ℕ} → xs ≡ ys → not (bytes_eq xs ys) ≡ true → ⊥
differ {xs} {ys} e other = let equal : bytes_eq xs ys ≡ true = grind (arith, bytes_eq-Decides) in let false_true : false ≡ true = subst (λ b. not b ≡ true) equal other in cc

pub returns-then-ne-clause-found : goal.returns-then-ne-clause-found
returns-then-ne-clause-found c = λ front back turned apart.
    let h = halves_are c.args.letters.now c.args.others.now front back c.split_at.result.0.now c.split_at.result.1.now c.split_at-2.result.0.now c.split_at-2.result.1.now c.difference.result c.len-2.result c.args.i c.args.j turned apart c.len-2.ensures c.difference.ensures.apart
    (sym c.as_slice.ensures ∙ c.split_at.ensures.by_index.0) c.split_at.ensures.front_len (sym c.as_slice-2.ensures ∙ c.split_at-2.ensures.by_index.0) c.split_at-2.ensures.front_len in
    elim c.then-ne.branch [
      | then-ne-via-then-ne w ↦ absurd (differ h.1 (sym c.ne.ensures ∙ w.if-ne.true))
      | then-ne-via-else-ne+then-ne-2 w ↦ absurd (differ h.2 (sym w.ne-else-ne.ensures ∙ w.if-ne-2.true))
    ]

pub returns-clause-found : goal.returns-clause-found
returns-clause-found c = λ front back turned apart.
    let h = halves_are c.args.letters.now c.args.others.now front back c.split_at.result.0.now c.split_at.result.1.now c.split_at-2.result.0.now c.split_at-2.result.1.now c.difference.result c.len-2.result c.args.i c.args.j turned apart c.len-2.ensures c.difference.ensures.apart
    (sym c.as_slice.ensures ∙ c.split_at.ensures.by_index.0) c.split_at.ensures.front_len (sym c.as_slice-2.ensures ∙ c.split_at-2.ensures.by_index.0) c.split_at-2.ensures.front_len in
    ap Some (c.in_ok-from_slice.ensures ∙ h.0)
