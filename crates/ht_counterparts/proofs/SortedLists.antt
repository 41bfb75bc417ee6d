-- Two lists that are sorted, with the same elements as often, are one.
use Rattle.std.proofs.Common.{◌≡◌, ℕ, ◌≤◌, ◌⊎◌, true, false, cond, inl, inr, List, [], ◌∷◌, Ordering, refl, sym, ap, ◌∙◌, subst, arith, AllPairs, Contains, IsPermutation}
use Rattle.std.specs.Cmp.{IsTotalOrder}
use Rattle.std.specs.List.{sum_by}
use Rattle.std.specs.List.Sorted.{IsSorted}
use Rattle.std.specs.Ordering.{is_eq, is_lt, ordering_reverse}
use Rattle.std.specs.declared.cmp.Ordering.TheVariants.{Less, Equal, Greater}
use Rattle.std.proofs.lemmas.Cmp.{tied_itself}
use Rattle.std.proofs.lemmas.List.Elements.{All-contains}
use Rattle.std.proofs.lemmas.List.Sums.{sum_by-cons}
use Rattle.std.proofs.lemmas.List.Sorted.{ranks_by, sorted_far, sum_by-IsPermutation}
use Rattle.ht_word.proofs.ListLaws.{AllPairs-head, AllPairs-tail, Contains-cons_cases, Contains-here, Contains-nil, Contains-there}

module _ {A : Type 0} (cmp : A → A → Ordering) (total : IsTotalOrder cmp) (once : (x y : A) → cmp x y ≡ Equal → x ≡ y) where
  abbrev is_one : A → A → ℕ
  is_one z x = cond (is_eq (cmp x z)) 1 0

  -- how often z stands in a list
  abbrev count : A → List A → ℕ
  count z xs = sum_by (is_one z) xs

  tested : (o : Ordering) → (o ≡ Equal) ⊎ (is_eq o ≡ false)
  tested Less = inr refl
  tested Equal = inl refl
  tested Greater = inr refl

  counted : (z : A) (xs : List A) → Contains xs z → 1 ≤ count z xs
  counted z [] c = absurd (Contains-nil z c)
  counted z (x ∷ xs) c = elim (Contains-cons_cases x xs z c) [
    | inl e ↦ one (ap (λ o. cond (is_eq o) 1 0) (ap (λ t. cmp t z) e ∙ tied_itself total z))
    | inr h ↦ (let some = counted z xs h in omega (arith, sum_by-cons (is_one z) x xs))
  ]
    where
      one : is_one z x ≡ 1 → 1 ≤ count z (x ∷ xs)
      one e = omega (arith, sum_by-cons (is_one z) x xs)

  stands : (z : A) (xs : List A) → 1 ≤ count z xs → Contains xs z
  stands z [] l = absurd (omega arith)
  stands z (x ∷ xs) l = elim (tested (cmp x z)) [
    | inl e ↦ subst (Contains (x ∷ xs)) (once x z e) (Contains-here x xs)
    | inr n ↦ Contains-there x xs z (stands z xs (fewer (ap (λ b. cond b 1 0) n)))
  ]
    where
      fewer : is_one z x ≡ 0 → 1 ≤ count z xs
      fewer e = omega (arith, sum_by-cons (is_one z) x xs)

  -- neither of two is before the other: they are one
  abbrev NotAfter : A → A → Type 0
  NotAfter x y = is_lt (cmp y x) ≡ false

  not_after_once : (x y : A) → NotAfter x y → NotAfter y x → x ≡ y
  not_after_once x y h g = once x y (neither (cmp x y) (cmp y x) (total.antisymm y x) g h)
    where
      neither : (o q : Ordering) → q ≡ ordering_reverse o → is_lt o ≡ false → is_lt q ≡ false → o ≡ Equal
      neither Less q e h g = cc
      neither Equal q e h g = refl
      neither Greater q e h g = let less : is_lt q ≡ true = ap is_lt e in cc

  head_first : (x y : A) (ys : List A) → AllPairs NotAfter (y ∷ ys) → Contains (y ∷ ys) x → NotAfter y x
  head_first x y ys up c = elim (Contains-cons_cases y ys x c) [
    | inl e ↦ subst (NotAfter y) e (ap is_lt (tied_itself total y))
    | inr h ↦ All-contains (NotAfter y) ys x (AllPairs-head NotAfter y ys up) h
  ]

  same_counted : (xs ys : List A) → AllPairs NotAfter xs → AllPairs NotAfter ys → ((z : A) → count z xs ≡ count z ys) → xs ≡ ys
  same_counted [] [] up to e = refl
  same_counted [] (y ∷ ys) up to e = absurd (Contains-nil y (stands y [] (omega (arith, e y, counted y (y ∷ ys) (Contains-here y ys)))))
  same_counted (x ∷ xs) [] up to e = absurd (Contains-nil x (stands x [] (omega (arith, e x, counted x (x ∷ xs) (Contains-here x xs)))))
  same_counted (x ∷ xs) (y ∷ ys) up to e =
      let heads : x ≡ y = not_after_once x y (head_first y x xs up (stands y (x ∷ xs) (omega (arith, e y, counted y (y ∷ ys) (Contains-here y ys)))))
      (head_first x y ys to (stands x (y ∷ ys) (omega (arith, e x, counted x (x ∷ xs) (Contains-here x xs))))) in
      let tails : xs ≡ ys = same_counted xs ys (AllPairs-tail NotAfter x xs up) (AllPairs-tail NotAfter y ys to)
      (λ z. less z (ap (is_one z) heads) (e z)) in
      cc
    where
      less : (z : A) → is_one z x ≡ is_one z y → count z (x ∷ xs) ≡ count z (y ∷ ys) → count z xs ≡ count z ys
      less z same e = omega (arith, sum_by-cons (is_one z) x xs, sum_by-cons (is_one z) y ys)

  rising : (xs : List A) → IsSorted cmp xs → AllPairs NotAfter xs
  rising xs up = λ i j d l m. sorted_far (λ x y. is_lt (cmp x y)) (ranks_by total (λ x. x)) xs up i j d (omega arith) m

  pub same_sorted : (xs ys : List A) → IsPermutation xs ys → IsSorted cmp xs → IsSorted cmp ys → xs ≡ ys
  same_sorted xs ys moved up to = same_counted xs ys (rising xs up) (rising ys to) (λ z. sym (sum_by-IsPermutation (is_one z) xs ys moved))
