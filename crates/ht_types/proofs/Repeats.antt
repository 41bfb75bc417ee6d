-- Of more elements than a list has, all of the list, two are one; so of more numbers below n than n.
use Rattle.std.proofs.Common.{◌≡◌, ◌≢◌, ℕ, zero, suc, ◌≤◌, ◌<◌, ◌⊎◌, inl, inr, min, List, length, Some, slice_get, refl, sym, ap, ◌∙◌, subst, arith, Contains}
use Rattle.std.proofs.lemmas.Bool.{cases_lt}
use Rattle.ht_word.proofs.Deciding.{same_or_not}
use Rattle.ht_quasi.proofs.StepLaws.{at_place}

-- two of the first n + 1 are one
pub record IsTwice {A : Type 0} (n : ℕ) (s : ℕ → A) : Type 0 where
  pub first : ℕ
  pub second : ℕ
  pub less : first < second
  pub within : second ≤ n
  pub same : s first ≡ s second

-- ---- numbers

found_or_not : (s : ℕ → ℕ) (v m : ℕ) → ((i : ℕ) × (i < m) × (s i ≡ v)) ⊎ ((i : ℕ) → i < m → s i ≢ v)
found_or_not s v zero = inr (λ i l. absurd (omega arith))
found_or_not s v (suc m) = elim (found_or_not s v m) [
  | inl h ↦ inl (h.0, (let l = h.1 in omega arith), h.2)
  | inr none ↦ elim (same_or_not (s m) v) [
    | inl e ↦ inl (m, omega arith, e)
    | inr n ↦ inr (λ i l. elim (cases_lt i m) [ inl less ↦ none i less | inr more ↦ (let e : m ≡ i = omega arith in subst (λ t. s t ≢ v) e n) ])
  ]
]

-- a number below n + 1 with v for n
put_for : (n v y : ℕ) → (w : ℕ) × (((y ≡ n) × (w ≡ v)) ⊎ ((y ≢ n) × (w ≡ y)))
put_for n v y = elim (same_or_not y n) [ inl e ↦ (v, inl (e, refl)) | inr e ↦ (y, inr (e, refl)) ]

put_below : (n v y w : ℕ) → ((y ≡ n) × (w ≡ v)) ⊎ ((y ≢ n) × (w ≡ y)) → y < suc n → v < suc n → y ≢ v → w < n
put_below n v y w (inl h) l m ne = grind (arith, h.0, h.1, ne)
put_below n v y w (inr h) l m ne = grind (arith, h.0, h.1)

put_same : (n v y z w u : ℕ) → ((y ≡ n) × (w ≡ v)) ⊎ ((y ≢ n) × (w ≡ y)) → ((z ≡ n) × (u ≡ v)) ⊎ ((z ≢ n) × (u ≡ z)) → y ≢ v → z ≢ v → w ≡ u → y ≡ z
put_same n v y z w u (inl h) (inl g) p q e = h.0 ∙ sym g.0
put_same n v y z w u (inl h) (inr g) p q e = absurd (q (sym g.1 ∙ sym e ∙ h.1))
put_same n v y z w u (inr h) (inl g) p q e = absurd (p (sym h.1 ∙ e ∙ g.1))
put_same n v y z w u (inr h) (inr g) p q e = sym h.1 ∙ e ∙ g.1

pub repeats_below : (n : ℕ) (s : ℕ → ℕ) → ((i : ℕ) → i ≤ n → s i < n) → IsTwice n s
repeats_below zero s below = absurd (let l = below 0 (omega arith) in omega arith)
repeats_below (suc n) s below = elim (found_or_not s (s (suc n)) (suc n)) [
  | inl h ↦ record { first = h.0; second = suc n; less = h.1; within = omega arith; same = h.2 }
  | inr none ↦ (
      let v = s (suc n) in
      let r = repeats_below n (λ i. (put_for n v (s i)).0) (λ i l. put_below n v (s i) (put_for n v (s i)).0 (put_for n v (s i)).1 (below i (omega arith)) (below (suc n) (omega arith)) (none i (omega arith))) in
      record {
        first = r.first;
        second = r.second;
        less = r.less;
        within = (let l = r.within in omega arith);
        same = put_same n v (s r.first) (s r.second) (put_for n v (s r.first)).0 (put_for n v (s r.second)).0 (put_for n v (s r.first)).1 (put_for n v (s r.second)).1
            (none r.first (let l = r.less in let m = r.within in omega arith)) (none r.second (let l = r.within in omega arith)) r.same;
      }
      )
]

-- ---- elements of a list

pub repeats : {A : Type 0} (X : List A) (s : ℕ → A) → ((i : ℕ) → i ≤ length X → Contains X (s i)) → IsTwice (length X) s
repeats {A} X s inside =
    let n = length X in
    let here : (i : ℕ) → Contains X (s (min i n)) = λ i. inside (min i n) (omega arith) in
    let r = repeats_below n (λ i. (here i).0) (λ i l. (here i).1) in
    let first : min r.first n ≡ r.first = least r.first n (let l = r.less in let m = r.within in omega arith) in
    let second : min r.second n ≡ r.second = least r.second n r.within in
    let same : Some (s (min r.first n)) ≡ Some (s (min r.second n)) = sym (at_place X (s (min r.first n)) (here r.first)) ∙ ap (λ k. slice_get X k) r.same ∙ at_place X (s (min r.second n)) (here r.second) in
    record { first = r.first; second = r.second; less = r.less; within = r.within; same = subst (λ i. s i ≡ s r.second) first (subst (λ i. s (min r.first n) ≡ s i) second (of_some (s (min r.first n)) (s (min r.second n)) same)) }
  where
    least : (i n : ℕ) → i ≤ n → min i n ≡ i
    least i n l = omega arith

    of_some : (x y : A) → Some x ≡ Some y → x ≡ y
    of_some x y e = cc
