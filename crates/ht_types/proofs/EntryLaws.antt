-- Entries of lists by their places.
use Rattle.std.proofs.Common.{◌≡◌, ◌≢◌, ℕ, zero, suc, ◌<◌, ◌⊎◌, inl, inr, List, [], ◌∷◌, ◌++◌, length, set, take, Some, slice_get, get_or, refl, sym, ap, ◌∙◌, arith}
use Rattle.std.proofs.lemmas.Option.{slice_get_within, slice_get_read, get_or_from_slice_get}
use Rattle.ht_word.proofs.Deciding.{same_or_not}

-- what was read
pub entry_read : {T : Type 0} (xs : List T) (i : ℕ) (x y : T) → i < length xs → x ≡ get_or xs i x → x ≡ y → slice_get xs i ≡ Some y
entry_read xs i x y l is same = slice_get_read xs (length xs) i x refl l is ∙ ap (λ a. Some a) same

pub read_is : {T : Type 0} (xs : List T) (i : ℕ) (x y : T) → x ≡ get_or xs i x → slice_get xs i ≡ Some y → x ≡ y
read_is xs i x y is here = is ∙ get_or_from_slice_get xs i y x here

pub entry_set : {T : Type 0} (xs : List T) (i : ℕ) (x : T) → i < length xs → slice_get (set xs i x) i ≡ Some x
entry_set [] i x l = absurd (omega arith)
entry_set (y ∷ xs) zero x l = refl
entry_set (y ∷ xs) (suc i) x l = entry_set xs i x (omega arith)

pub entry_kept : {T : Type 0} (xs : List T) (i j : ℕ) (x : T) → j ≢ i → slice_get (set xs i x) j ≡ slice_get xs j
entry_kept [] i j x n = refl
entry_kept (y ∷ xs) zero zero x n = absurd (n refl)
entry_kept (y ∷ xs) zero (suc j) x n = refl
entry_kept (y ∷ xs) (suc i) zero x n = refl
entry_kept (y ∷ xs) (suc i) (suc j) x n = entry_kept xs i j x (λ e. n (ap suc e))

-- what stands at a place after a write
pub entry_cases : {T : Type 0} (xs : List T) (i j : ℕ) (x y : T) → i < length xs → slice_get (set xs i x) j ≡ Some y → ((j ≡ i) × (x ≡ y)) ⊎ ((j ≢ i) × (slice_get xs j ≡ Some y))
entry_cases xs i j x y l h = elim (same_or_not j i) [
  | inl e ↦ inl (e, (let f : Some x ≡ Some y = sym (entry_set xs i x l) ∙ ap (λ k. slice_get (set xs i x) k) (sym e) ∙ h in cc))
  | inr n ↦ inr (n, sym (entry_kept xs i j x n) ∙ h)
]

pub entry_front : {T : Type 0} (xs ys : List T) (i : ℕ) (x : T) → slice_get xs i ≡ Some x → slice_get (xs ++ ys) i ≡ Some x
entry_front [] ys i x h = absurd (let l = slice_get_within [] i x h in omega arith)
entry_front (y ∷ xs) ys zero x h = h
entry_front (y ∷ xs) ys (suc i) x h = entry_front xs ys i x h

pub entry_push : {T : Type 0} (xs : List T) (x : T) → slice_get (xs ++ x ∷ []) (length xs) ≡ Some x
entry_push [] x = refl
entry_push (y ∷ xs) x = entry_push xs x

pub entry_in_take : {T : Type 0} (n : ℕ) (xs : List T) (i : ℕ) (x : T) → i < n → slice_get xs i ≡ Some x → slice_get (take n xs) i ≡ Some x
entry_in_take zero xs i x l h = absurd (omega arith)
entry_in_take (suc n) [] i x l h = h
entry_in_take (suc n) (y ∷ xs) zero x l h = h
entry_in_take (suc n) (y ∷ xs) (suc i) x l h = entry_in_take n xs i x (omega arith) h

pub entry_of_take : {T : Type 0} (n : ℕ) (xs : List T) (i : ℕ) (x : T) → slice_get (take n xs) i ≡ Some x → (i < n) × (slice_get xs i ≡ Some x)
entry_of_take zero xs i x h = absurd (let l = slice_get_within [] i x h in omega arith)
entry_of_take (suc n) [] i x h = absurd (let l = slice_get_within [] i x h in omega arith)
entry_of_take (suc n) (y ∷ xs) zero x h = (omega arith, h)
entry_of_take (suc n) (y ∷ xs) (suc i) x h = let r = entry_of_take n xs i x h in ((let l = r.0 in omega arith), r.1)
