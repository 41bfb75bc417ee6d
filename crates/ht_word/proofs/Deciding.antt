-- What can be decided of words: whether two are the same, whether one is under another or under some of a list.
use Rattle.std.proofs.Common.{◌≡◌, ◌≢◌, ℕ, ◌⊎◌, inl, inr, List, [], ◌∷◌, ◌++◌, refl, sym, ap, subst, arith, Contains, ◌+◌}
use Rattle.ht_word.specs.Words.{IsUnder, IsUnderSome}
use Rattle.ht_word.specs.declared.word.Word.{Word}
use Rattle.ht_word.proofs.ListLaws.{Contains-nil, Contains-here, Contains-there, Contains-cons_cases}
use Rattle.ht_word.proofs.WordLaws.{word_eq, under_refl, under_antisym}

-- two numbers are the same or not
pub same_or_not : (a b : ℕ) → (a ≡ b) ⊎ (a ≢ b)
same_or_not a b = grind arith

-- a list begins with another or not
prefix_or_not : (s t : List ℕ) → ((z : List ℕ) × (s ≡ t ++ z)) ⊎ ¬ ((z : List ℕ) × (s ≡ t ++ z))
prefix_or_not s [] = inl (s, refl)
prefix_or_not [] (b ∷ t) = inr (λ h. let e = h.1 in cc)
prefix_or_not (a ∷ s) (b ∷ t) = elim (same_or_not a b) [
  | inl e ↦ elim (prefix_or_not s t) [
    | inl h ↦ inl (h.0, (let k = h.1 in cc))
    | inr n ↦ inr (λ h. n (h.0, (let k = h.1 in cc)))
  ]
  | inr n ↦ inr (λ h. let k = h.1 in let same : a ≡ b = cc in n same)
]

-- a word is under another or not
pub under_or_not : (u v : Word) → IsUnder u v ⊎ ¬ IsUnder u v
under_or_not u v = elim (same_or_not u.root v.root) [
  | inl e ↦ elim (prefix_or_not u.letters v.letters) [
    | inl h ↦ inl (record { rest = h.0; is = word_eq e h.1 })
    | inr n ↦ inr (λ h. n (h.rest, ap (λ (w : Word). w.letters) h.is))
  ]
  | inr n ↦ inr (λ h. n (ap (λ (w : Word). w.root) h.is))
]

-- a word is under some word of a list or not
pub under_some_or_not : (u : Word) (W : List Word) → IsUnderSome u W ⊎ ¬ IsUnderSome u W
under_some_or_not u [] = inr (λ s. Contains-nil s.above s.listed)
under_some_or_not u (w ∷ W) = elim (under_or_not u w) [
  | inl h ↦ inl (record { above = w; listed = Contains-here w W; under = h })
  | inr n ↦ elim (under_some_or_not u W) [
    | inl s ↦ inl (record { above = s.above; listed = Contains-there w W s.above s.listed; under = s.under })
    | inr m ↦ inr (λ s. elim (Contains-cons_cases w W s.above s.listed) [
      | inl e ↦ n (subst (λ t. IsUnder u t) (sym e) s.under)
      | inr c ↦ m (record { above = s.above; listed = c; under = s.under })
    ])
  ]
]

-- two words are the same or not
pub same_word_or_not : (u v : Word) → (u ≡ v) ⊎ (u ≢ v)
same_word_or_not u v = elim (under_or_not u v) [
  | inr n ↦ inr (λ e. n (subst (λ t. IsUnder u t) e (under_refl u)))
  | inl h ↦ elim (under_or_not v u) [
    | inr n ↦ inr (λ e. n (subst (λ t. IsUnder t u) e (under_refl u)))
    | inl g ↦ inl (under_antisym h g)
  ]
]

-- a word is in a list or not
pub contains_or_not : (W : List Word) (u : Word) → Contains W u ⊎ ¬ Contains W u
contains_or_not [] u = inr (λ c. Contains-nil u c)
contains_or_not (w ∷ W) u = elim (same_word_or_not w u) [
  | inl e ↦ inl (subst (Contains (w ∷ W)) e (Contains-here w W))
  | inr n ↦ elim (contains_or_not W u) [
    | inl c ↦ inl (Contains-there w W u c)
    | inr m ↦ inr (λ c. elim (Contains-cons_cases w W u c) [ inl e ↦ n e | inr k ↦ m k ])
  ]
]

-- two lists are the same or not, where that can be decided of their elements
same_list_or_not : {X : Type 0} → ((x y : X) → (x ≡ y) ⊎ ¬ (x ≡ y)) → (xs ys : List X) → (xs ≡ ys) ⊎ ¬ (xs ≡ ys)
same_list_or_not same [] [] = inl refl
same_list_or_not same [] (y ∷ ys) = inr (λ e. cc)
same_list_or_not same (x ∷ xs) [] = inr (λ e. cc)
same_list_or_not same (x ∷ xs) (y ∷ ys) = elim (same x y) [
  | inr n ↦ inr (λ e. let head : x ≡ y = cc in n head)
  | inl head ↦ elim (same_list_or_not same xs ys) [
    | inl tail ↦ inl (λ i. head i ∷ tail i)
    | inr n ↦ inr (λ e. let tail : xs ≡ ys = cc in n tail)
  ]
]

-- a list that is not the back, and whose tail doesn't end with the back, doesn't end with it
none_longer : {X : Type 0} (x : X) (xs tail : List X) → ¬ (x ∷ xs ≡ tail) → ((front : List X) → ¬ (xs ≡ front ++ tail)) → (front : List X) → ¬ (x ∷ xs ≡ front ++ tail)
none_longer x xs tail n m [] e = n e
none_longer x xs tail n m (y ∷ front) e = let rest : xs ≡ front ++ tail = cc in m front rest

-- a list ends with another or not
pub ends_with_or_not : {X : Type 0} → ((x y : X) → (x ≡ y) ⊎ ¬ (x ≡ y)) → (xs tail : List X) → ((front : List X) × (xs ≡ front ++ tail)) ⊎ ((front : List X) → ¬ (xs ≡ front ++ tail))
ends_with_or_not same [] tail = elim (same_list_or_not same [] tail) [
  | inl e ↦ inl ([], e)
  | inr n ↦ inr (none_shorter tail n)
]
  where
    none_shorter : {X : Type 0} (tail : List X) → ¬ ([] ≡ tail) → (front : List X) → ¬ ([] ≡ front ++ tail)
    none_shorter tail n [] e = n e
    none_shorter tail n (y ∷ front) e = cc
ends_with_or_not same (x ∷ xs) tail = elim (same_list_or_not same (x ∷ xs) tail) [
  | inl e ↦ inl ([], e)
  | inr n ↦ elim (ends_with_or_not same xs tail) [
    | inl h ↦ inl (x ∷ h.0, ap (λ t. x ∷ t) h.1)
    | inr m ↦ inr (none_longer x xs tail n m)
  ]
]
