-- The places by which letters turn into others, one after another.
use Rattle.std.proofs.Common.{◌≡◌, ℕ, ◌+◌, ◌<◌, ◌≤◌, inl, inr, List, [], ◌∷◌, ◌++◌, ◌↔◌, length, take, drop, get_or, sym, ap, ◌∙◌, subst, arith, append_assoc, take-append-drop, Contains}
use Rattle.std.proofs.lemmas.Bool.{cases_lt}
use Rattle.std.proofs.lemmas.List.{drop-append-le, length-append, length-take-le, take_all, take_more}
use Rattle.std.proofs.lemmas.List.Elements.{Contains-append_left, Contains-push, Contains-push_cases}
use Rattle.ht_local.specs.Candidates.{IsTurned}
use Rattle.ht_local.specs.Borders.{HoldsFront, IsTail}
use Rattle.ht_local.proofs.CandidateLaws.{before_or, drop_front}

-- the listed places are those before the count
abbrev pub AreTurnedBefore : List ℕ → List ℕ → ℕ → List ℕ → Type 0
AreTurnedBefore letters by count places = (place : ℕ) → Contains places place ↔ ((place < count) × IsTurned letters place by)

module _ (letters by : List ℕ) where
  -- one more, by which they do
  pub one_more_place : (count : ℕ) (places : List ℕ) → count < length letters → by ≡ drop count letters ++ take count letters
      → AreTurnedBefore letters by count places → AreTurnedBefore letters by (count + 1) (places ++ count ∷ [])
  one_more_place count places within turned before place = (
    λ c. elim (Contains-push_cases places count place c) [
      | inl early ↦ (let b = (before place).0 early in (omega (arith, b.0), b.1))
      | inr e ↦ (omega (arith, e), subst (λ i. IsTurned letters i by) e (within, turned))
    ],
    λ (l, t). elim (before_or place count l) [
      | inl early ↦ Contains-append_left places (count ∷ []) place ((before place).1 (early, t))
      | inr e ↦ subst (Contains (places ++ count ∷ [])) (sym e) (Contains-push places count)
    ],
  )

  -- one more, by which they don't
  pub no_more_place : (count : ℕ) (places : List ℕ) → ¬ (by ≡ drop count letters ++ take count letters) → AreTurnedBefore letters by count places → AreTurnedBefore letters by (count + 1) places
  no_more_place count places other before place = (
    λ c. let b = (before place).0 c in (omega (arith, b.0), b.1),
    λ (l, t). elim (before_or place count l) [
      | inl early ↦ (before place).1 (early, t)
      | inr e ↦ absurd (other (subst (λ i. IsTurned letters i by) e t).1)
    ],
  )

  -- at the end they are all
  pub all_turned : (count : ℕ) (places : List ℕ) → length letters ≤ count → AreTurnedBefore letters by count places → (place : ℕ) → Contains places place ↔ IsTurned letters place by
  all_turned count places far before place = (λ c. ((before place).0 c).1, λ t. (before place).1 (omega (arith, t.0), t))

  -- the others stand behind a place of the letters twice just where these turn into them
  pub held_turned : (place held : ℕ) → length letters ≡ length by → place < length letters → HoldsFront by (letters ++ take place letters) (length by) held
      → (held ≡ length by) ↔ (by ≡ drop place letters ++ take place letters)
  held_turned place held many within h = (
    λ e.
        let t = subst (λ x. IsTail x (letters ++ take place letters)) (ap (λ i. take i by) e ∙ take_all (length by) by (omega arith)) h.tail in
        let behind = length-take-le place letters (omega arith) in
        let count : length t.front ≡ place = omega (arith, behind, length-append t.front by, length-append letters (take place letters), ap (λ (z : List ℕ). length z) t.is) in
        sym (drop_front t.front by) ∙ ap (λ i. drop i (t.front ++ by)) count ∙ ap (λ z. drop place z) (sym t.is) ∙ drop-append-le place letters (take place letters) (omega arith),
    λ turned.
        let t : IsTail (take (length by) by) (letters ++ take place letters) = subst (λ x. IsTail x (letters ++ take place letters)) (sym (take_all (length by) by (omega arith))) (record {
          front = take place letters;
          is = ap (λ z. z ++ take place letters) (sym (take-append-drop place letters)) ∙ append_assoc (take place letters) (drop place letters) (take place letters) ∙ ap (λ z. take place letters ++ z) (sym turned);
        }) in
        elim (cases_lt held (length by)) [
          | inl less ↦ absurd (h.longest (length by) less (omega arith) t)
          | inr all ↦ (let top = h.within in omega arith)
        ],
  )

  -- one letter more
  pub held_more : (place held : ℕ) → place < length letters → HoldsFront by ((letters ++ take place letters) ++ get_or letters place 0 ∷ []) (length by) held
      → HoldsFront by (letters ++ take (place + 1) letters) (length by) held
  held_more place held within h = subst (λ z. HoldsFront by z (length by) held)
      (append_assoc letters (take place letters) (get_or letters place 0 ∷ []) ∙ ap (λ z. letters ++ z) (sym (take_more letters place 0 within))) h
