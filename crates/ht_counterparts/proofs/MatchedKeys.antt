-- Two lists, with keys of their items, and a relation that matches items with a key: one to one, and with equal keys.
use Rattle.std.proofs.Common.{◌≡◌, ◌≢◌, ◌⊎◌, inl, inr, List, [], ◌∷◌, ◌++◌, refl, sym, ap, ◌∙◌, subst, subst₂, append_assoc, AllPairs, Contains, flat_map, IsPermutation}
use Rattle.std.proofs.lemmas.List.Concat.{flat_map-append}
use Rattle.std.proofs.lemmas.List.Elements.{All-contains, Contains-append_cases, Contains-append_left, Contains-append_right}
use Rattle.std.proofs.lemmas.List.Sorted.{IsPermutation-append_comm, IsPermutation-append_left, IsPermutation-append_right, IsPermutation-refl, IsPermutation-trans}
use Rattle.ht_word.proofs.ListLaws.{AllPairs-across, AllPairs-append, AllPairs-head, AllPairs-left, AllPairs-right, AllPairs-tail, Contains-cons_cases, Contains-here, Contains-nil, Contains-there}

-- ---- an item and what stands beside it

record HasBeside {A : Type 0} (xs : List A) (x : A) : Type 0 where
  before : List A
  after : List A
  is : xs ≡ before ++ x ∷ after

beside : {A : Type 0} (xs : List A) (x : A) → Contains xs x → HasBeside xs x
beside [] x c = absurd (Contains-nil x c)
beside (y ∷ xs) x c = elim (Contains-cons_cases y xs x c) [
  | inl e ↦ record { before = []; after = xs; is = ap (λ t. t ∷ xs) e }
  | inr h ↦ (let s = beside xs x h in record { before = y ∷ s.before; after = s.after; is = ap (λ t. y ∷ t) s.is })
]

-- another item stands beside it
left_beside : {A : Type 0} (us vs : List A) (x y : A) → Contains (us ++ x ∷ vs) y → x ≢ y → Contains (us ++ vs) y
left_beside us vs x y c other = elim (Contains-append_cases us (x ∷ vs) y c) [
  | inl h ↦ Contains-append_left us vs y h
  | inr h ↦ elim (Contains-cons_cases x vs y h) [ inl e ↦ absurd (other e) | inr k ↦ Contains-append_right us vs y k ]
]

whole_of : {A : Type 0} (us vs : List A) (x y : A) → Contains (us ++ vs) y → Contains (us ++ x ∷ vs) y
whole_of us vs x y c = elim (Contains-append_cases us vs y c) [
  | inl h ↦ Contains-append_left us (x ∷ vs) y h
  | inr h ↦ Contains-append_right us (x ∷ vs) y (Contains-there x vs y h)
]

abbrev pub AreDistinct : {A : Type 0} → List A → Type 0
AreDistinct {A} xs = AllPairs (λ (x : A) (y : A). x ≢ y) xs

distinct_beside : {A : Type 0} (us vs : List A) (x : A) → AreDistinct (us ++ x ∷ vs) → AreDistinct (us ++ vs)
distinct_beside {A} us vs x d =
    let R = λ (s : A) (t : A). s ≢ t in
    AllPairs-append R us vs (AllPairs-left R us (x ∷ vs) d) (AllPairs-tail R x vs (AllPairs-right R us (x ∷ vs) d))
    (λ s t c e. AllPairs-across R us (x ∷ vs) d s t c (Contains-there x vs t e))

apart_beside : {A : Type 0} (us vs : List A) (x y : A) → AreDistinct (us ++ x ∷ vs) → Contains (us ++ vs) y → x ≢ y
apart_beside {A} us vs x y d c = elim (Contains-append_cases us vs y c) [
  | inl h ↦ λ e. AllPairs-across R us (x ∷ vs) d y x h (Contains-here x vs) (sym e)
  | inr h ↦ All-contains (R x) vs y (AllPairs-head R x vs (AllPairs-right R us (x ∷ vs) d)) h
]
  where
    R : A → A → Type 0
    R = λ s t. s ≢ t

-- ---- keys

-- some items go in front of others
moved_front : {E : Type 0} (K T U V : List E) → IsPermutation T (U ++ V) → IsPermutation (K ++ T) (U ++ (K ++ V))
moved_front K T U V h = IsPermutation-trans (K ++ T) (K ++ (U ++ V)) (U ++ (K ++ V)) (IsPermutation-append_right K T (U ++ V) h)
    (subst₂ IsPermutation (append_assoc K U V) (append_assoc U K V) (IsPermutation-append_left V (K ++ U) (U ++ K) (IsPermutation-append_comm K U)))

module _ {A B E : Type 0} (key : A → List E) (other : B → List E) (R : A → B → Type 0) (same : (x : A) (y : B) → R x y → key x ≡ other y) (single : (x : A) (y y' : B) → R x y → R x y' → y ≡ y') (back : (x x' : A) (y : B) → R x y → R x' y → x ≡ x') where
  -- each item has no key or a match among the items of the other list
  abbrev AreMatched : List A → List B → Type 0
  AreMatched xs ys = (x : A) → Contains xs x → (key x ≡ []) ⊎ ((y : B) × Contains ys y × R x y)

  abbrev AreMatchedBack : List A → List B → Type 0
  AreMatchedBack xs ys = (y : B) → Contains ys y → (other y ≡ []) ⊎ ((x : A) × Contains xs x × R x y)

  none_left : (ys : List B) → AreMatchedBack [] ys → flat_map other ys ≡ []
  none_left [] from = refl
  none_left (y ∷ ys) from = elim (from y (Contains-here y ys)) [
    | inl e ↦ ap (λ t. t ++ flat_map other ys) e ∙ none_left ys (λ x c. from x (Contains-there y ys x c))
    | inr m ↦ absurd (Contains-nil m.0 m.1)
  ]

  -- without an item that has no key
  keyless_back : (x : A) (xs : List A) (ys : List B) → key x ≡ [] → AreMatchedBack (x ∷ xs) ys → AreMatchedBack xs ys
  keyless_back x xs ys none from y c = elim (from y c) [
    | inl n ↦ inl n
    | inr m ↦ elim (Contains-cons_cases x xs m.0 m.1) [
      | inl e ↦ inl (sym (same m.0 y m.2) ∙ ap key (sym e) ∙ none)
      | inr h ↦ inr (m.0, h, m.2)
    ]
  ]

  -- without an item and its match
  matched_left : (x : A) (xs : List A) (y : B) (us vs : List B) → R x y → AreDistinct (x ∷ xs) → AreMatched (x ∷ xs) (us ++ y ∷ vs)
      → AreMatched xs (us ++ vs)
  matched_left x xs y us vs r d to a c = elim (to a (Contains-there x xs a c)) [
    | inl n ↦ inl n
    | inr m ↦ inr (m.0, left_beside us vs y m.0 m.1 (λ e. apart_beside [] xs x a d c (back x a y r (subst (R a) (sym e) m.2))), m.2)
  ]

  matched_back_left : (x : A) (xs : List A) (y : B) (us vs : List B) → R x y → AreDistinct (us ++ y ∷ vs) → AreMatchedBack (x ∷ xs) (us ++ y ∷ vs)
      → AreMatchedBack xs (us ++ vs)
  matched_back_left x xs y us vs r d from b c = elim (from b (whole_of us vs y b c)) [
    | inl n ↦ inl n
    | inr m ↦ inr (m.0, left_beside [] xs x m.0 m.1 (λ e. apart_beside us vs y b d c (single x y b r (subst (λ a. R a b) (sym e) m.2))), m.2)
  ]

  -- the keys of both come back
  keys_joined : (x : A) (xs : List A) (y : B) (us vs : List B) → R x y → IsPermutation (flat_map key xs) (flat_map other (us ++ vs))
      → IsPermutation (flat_map key (x ∷ xs)) (flat_map other (us ++ y ∷ vs))
  keys_joined x xs y us vs r rest =
      let T = flat_map key xs in
      let U = flat_map other us in
      let V = flat_map other vs in
      let front = moved_front (key x) T U V (subst (IsPermutation T) (flat_map-append other us vs) rest) in
      subst (IsPermutation (key x ++ T)) (ap (λ K. U ++ (K ++ V)) (same x y r) ∙ sym (flat_map-append other us (y ∷ vs))) front

  pub matched_keys : (xs : List A) (ys : List B) → AreDistinct xs → AreDistinct ys → AreMatched xs ys → AreMatchedBack xs ys
      → IsPermutation (flat_map key xs) (flat_map other ys)
  matched_keys [] ys d e to from = subst (IsPermutation []) (sym (none_left ys from)) (IsPermutation-refl [])
  matched_keys (x ∷ xs) ys d e to from = elim (to x (Contains-here x xs)) [
    | inl none ↦ subst (λ t. IsPermutation (t ++ flat_map key xs) (flat_map other ys)) (sym none)
        (matched_keys xs ys (distinct_beside [] xs x d) e (λ a c. to a (Contains-there x xs a c)) (keyless_back x xs ys none from))
    | inr m ↦
        let s = beside ys m.0 m.1 in
        let apart = subst AreDistinct s.is e in
        let rest = matched_keys xs (s.before ++ s.after) (distinct_beside [] xs x d) (distinct_beside s.before s.after m.0 apart)
        (matched_left x xs m.0 s.before s.after m.2 d (subst (AreMatched (x ∷ xs)) s.is to))
        (matched_back_left x xs m.0 s.before s.after m.2 apart (subst (AreMatchedBack (x ∷ xs)) s.is from)) in
        subst (λ t. IsPermutation (flat_map key (x ∷ xs)) (flat_map other t)) (sym s.is) (keys_joined x xs m.0 s.before s.after m.2 rest)
  ]
