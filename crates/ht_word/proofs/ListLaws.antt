-- Elements of lists, and facts for each two elements.
use Rattle.std.proofs.Common.{◌≡◌, ℕ, zero, suc, ◌<◌, ◌⊎◌, inl, inr, List, [], ◌∷◌, ◌++◌, length, map, get_or, refl, sym, ap, ◌∙◌, subst, subst₂, arith, All, AllPairs, Contains, flat_map}
use Rattle.std.proofs.lemmas.List.{get_or_default, get_or-map, length-map, length-append}
use Rattle.std.proofs.lemmas.List.Elements.{Contains-get_or, All-append, All-contains, All-map, Contains-append_left, Contains-append_right, Contains-append_cases}
use Rattle.ht_word.proofs.WordLaws.{All-from_contains}

-- the place of an element, read with any default
pub contains_at : {X : Type 0} (xs : List X) (x d : X) (c : Contains xs x) → get_or xs c.0 d ≡ x
contains_at xs x d c = get_or_default xs c.0 d x c.1 ∙ c.2

pub Contains-nil : {X : Type 0} (x : X) → Contains [] x → ⊥
Contains-nil x c = let l : c.0 < 0 = c.1 in omega arith

pub Contains-here : {X : Type 0} (x : X) (xs : List X) → Contains (x ∷ xs) x
Contains-here x xs = (0, omega arith, refl)

pub Contains-there : {X : Type 0} (y : X) (xs : List X) (x : X) → Contains xs x → Contains (y ∷ xs) x
Contains-there y xs x c = let l : c.0 < length xs = c.1 in (suc c.0, omega arith, c.2)

pub Contains-cons_cases : {X : Type 0} (y : X) (xs : List X) (x : X) → Contains (y ∷ xs) x → (y ≡ x) ⊎ Contains xs x
Contains-cons_cases y xs x c = go c.0 c.1 c.2
  where
    go : (k : ℕ) → k < length (y ∷ xs) → get_or (y ∷ xs) k x ≡ x → (y ≡ x) ⊎ Contains xs x
    go zero l e = inl e
    go (suc k) l e = inr (k, omega arith, e)

pub Contains-map : {X Y : Type 0} (f : X → Y) (xs : List X) (x : X) → Contains xs x → Contains (map f xs) (f x)
Contains-map f xs x c = (c.0, (let l = c.1 in omega (arith, length-map xs f)), get_or-map f xs c.0 x (f x) c.1 ∙ ap f c.2)

pub contained_in_map : {X Y : Type 0} (f : X → Y) (xs : List X) (y : Y) → Contains (map f xs) y → (x : X) × Contains xs x × (f x ≡ y)
contained_in_map f [] y c = absurd (Contains-nil y c)
contained_in_map f (x ∷ xs) y c = elim (Contains-cons_cases (f x) (map f xs) y c) [
  | inl e ↦ (x, Contains-here x xs, e)
  | inr h ↦ (let k = contained_in_map f xs y h in (k.0, Contains-there x xs k.0 k.1, k.2))
]

pub trichotomy : (i j : ℕ) → ((i < j) ⊎ (j < i)) ⊎ (i ≡ j)
trichotomy i j = grind arith

-- two elements of one list of which neither stands before the other stand at one place
pub same_place : {X : Type 0} (R : X → X → Type 0) (xs : List X) → AllPairs R xs → (x y : X) (c : Contains xs x) (e : Contains xs y) → ¬ R x y → ¬ R y x → c.0 ≡ e.0
same_place {X} R xs h x y c e not_before not_after =
    elim (trichotomy c.0 e.0) [
      | inl k ↦ absurd (elim k [
        | inl l ↦ not_before (subst₂ R (contains_at xs x x c) (contains_at xs y x e) (h c.0 e.0 x l e.1))
        | inr l ↦ not_after (subst₂ R (contains_at xs y x e) (contains_at xs x x c) (h e.0 c.0 x l c.1))
      ])
      | inr s ↦ s
    ]

-- and are one
pub same_element : {X : Type 0} (R : X → X → Type 0) (xs : List X) → AllPairs R xs → (x y : X) → Contains xs x → Contains xs y → ¬ R x y → ¬ R y x → x ≡ y
same_element R xs h x y c e not_before not_after =
    sym (contains_at xs x x c) ∙ ap (λ k. get_or xs k x) (same_place R xs h x y c e not_before not_after) ∙ contains_at xs y x e

pub AllPairs-head : {X : Type 0} (R : X → X → Type 0) (x : X) (xs : List X) → AllPairs R (x ∷ xs) → All (R x) xs
AllPairs-head R x xs h = λ k d l. h 0 (suc k) d (omega arith) (omega arith)

pub AllPairs-tail : {X : Type 0} (R : X → X → Type 0) (x : X) (xs : List X) → AllPairs R (x ∷ xs) → AllPairs R xs
AllPairs-tail R x xs h = λ i j d l m. h (suc i) (suc j) d (omega arith) (omega arith)

pub AllPairs-cons : {X : Type 0} (R : X → X → Type 0) (x : X) (xs : List X) → All (R x) xs → AllPairs R xs → AllPairs R (x ∷ xs)
AllPairs-cons {X} R x xs h t = go
  where
    go : AllPairs R (x ∷ xs)
    go zero zero d l m = absurd (omega arith)
    go zero (suc j) d l m = h j d (omega arith)
    go (suc i) zero d l m = absurd (omega arith)
    go (suc i) (suc j) d l m = t i j d (omega arith) (omega arith)

pub AllPairs-nil : {X : Type 0} (R : X → X → Type 0) → AllPairs R []
AllPairs-nil R = λ i j d l m. absurd (omega arith)

pub AllPairs-append : {X : Type 0} (R : X → X → Type 0) (xs ys : List X) → AllPairs R xs → AllPairs R ys → ((x y : X) → Contains xs x → Contains ys y → R x y) → AllPairs R (xs ++ ys)
AllPairs-append R [] ys h g cross = g
AllPairs-append R (x ∷ xs) ys h g cross =
    AllPairs-cons R x (xs ++ ys)
    (All-append (R x) xs ys (AllPairs-head R x xs h) (All-from_contains (R x) ys (λ y c. cross x y (Contains-here x xs) c)))
    (AllPairs-append R xs ys (AllPairs-tail R x xs h) g (λ x' y c e. cross x' y (Contains-there x xs x' c) e))

-- what follows from a fact for each two elements
pub AllPairs-weaker : {X : Type 0} (R Q : X → X → Type 0) (xs : List X) → AllPairs R xs → ((x y : X) → Contains xs x → Contains xs y → R x y → Q x y) → AllPairs Q xs
AllPairs-weaker R Q xs h f = λ i j d l m. f _ _ (Contains-get_or xs i d (omega arith)) (Contains-get_or xs j d m) (h i j d l m)

pub AllPairs-from_map : {X Y : Type 0} (f : X → Y) (R : Y → Y → Type 0) (xs : List X) → AllPairs R (map f xs) → AllPairs (λ x y. R (f x) (f y)) xs
AllPairs-from_map f R [] h = AllPairs-nil (λ x y. R (f x) (f y))
AllPairs-from_map f R (x ∷ xs) h =
    AllPairs-cons (λ x y. R (f x) (f y)) x xs
    (All-from_contains (λ y. R (f x) (f y)) xs (λ y c. All-contains (R (f x)) (map f xs) (f y) (AllPairs-head R (f x) (map f xs) h) (Contains-map f xs y c)))
    (AllPairs-from_map f R xs (AllPairs-tail R (f x) (map f xs) h))

pub AllPairs-map : {X Y : Type 0} (f : X → Y) (R : Y → Y → Type 0) (xs : List X) → AllPairs (λ x y. R (f x) (f y)) xs → AllPairs R (map f xs)
AllPairs-map f R [] h = AllPairs-nil R
AllPairs-map f R (x ∷ xs) h =
    AllPairs-cons R (f x) (map f xs)
    (All-map (R (f x)) f xs (AllPairs-head (λ x y. R (f x) (f y)) x xs h))
    (AllPairs-map f R xs (AllPairs-tail (λ x y. R (f x) (f y)) x xs h))

pub AllPairs-left : {X : Type 0} (R : X → X → Type 0) (xs ys : List X) → AllPairs R (xs ++ ys) → AllPairs R xs
AllPairs-left R [] ys h = AllPairs-nil R
AllPairs-left R (x ∷ xs) ys h = AllPairs-cons R x xs (All-from_contains (R x) xs (λ y c. All-contains (R x) (xs ++ ys) y (AllPairs-head R x (xs ++ ys) h) (Contains-append_left xs ys y c))) (AllPairs-left R xs ys (AllPairs-tail R x (xs ++ ys) h))

pub AllPairs-right : {X : Type 0} (R : X → X → Type 0) (xs ys : List X) → AllPairs R (xs ++ ys) → AllPairs R ys
AllPairs-right R [] ys h = h
AllPairs-right R (x ∷ xs) ys h = AllPairs-right R xs ys (AllPairs-tail R x (xs ++ ys) h)

pub AllPairs-across : {X : Type 0} (R : X → X → Type 0) (xs ys : List X) → AllPairs R (xs ++ ys) → (x y : X) → Contains xs x → Contains ys y → R x y
AllPairs-across R [] ys h x y c e = absurd (Contains-nil x c)
AllPairs-across R (z ∷ xs) ys h x y c e = elim (Contains-cons_cases z xs x c) [
  | inl s ↦ subst (λ w. R w y) s (All-contains (R z) (xs ++ ys) y (AllPairs-head R z (xs ++ ys) h) (Contains-append_right xs ys y e))
  | inr k ↦ AllPairs-across R xs ys (AllPairs-tail R z (xs ++ ys) h) x y k e
]

pub Contains-flat_map : {X Y : Type 0} (f : X → List Y) (xs : List X) (x : X) (y : Y) → Contains xs x → Contains (f x) y → Contains (flat_map f xs) y
Contains-flat_map f [] x y c e = absurd (Contains-nil x c)
Contains-flat_map f (z ∷ xs) x y c e = elim (Contains-cons_cases z xs x c) [
  | inl s ↦ Contains-append_left (f z) (flat_map f xs) y (subst (λ w. Contains (f w) y) (sym s) e)
  | inr k ↦ Contains-append_right (f z) (flat_map f xs) y (Contains-flat_map f xs x y k e)
]

pub contained_in_flat_map : {X Y : Type 0} (f : X → List Y) (xs : List X) (y : Y) → Contains (flat_map f xs) y → (x : X) × Contains xs x × Contains (f x) y
contained_in_flat_map f [] y c = absurd (Contains-nil y c)
contained_in_flat_map f (x ∷ xs) y c = elim (Contains-append_cases (f x) (flat_map f xs) y c) [
  | inl h ↦ (x, Contains-here x xs, h)
  | inr h ↦ (let k = contained_in_flat_map f xs y h in (k.0, Contains-there x xs k.0 k.1, k.2))
]

-- two elements that f sends to elements at one place are one
pub same_by_map : {X Y : Type 0} (f : X → Y) (R : Y → Y → Type 0) (xs : List X) → AllPairs R (map f xs) → (x y : X) → Contains xs x → Contains xs y → ¬ R (f x) (f y) → ¬ R (f y) (f x) → x ≡ y
same_by_map f R xs h x y c e not_before not_after = same_element (λ x y. R (f x) (f y)) xs (AllPairs-from_map f R xs h) x y c e not_before not_after

-- two lists in ascending order with the same elements are one
pub ascending_same : {X : Type 0} (R : X → X → Type 0) → ((x y : X) → R x y → R y x → ⊥) → (xs ys : List X) → AllPairs R xs → AllPairs R ys → ((x : X) → Contains xs x → Contains ys x) → ((x : X) → Contains ys x → Contains xs x) → xs ≡ ys
ascending_same R once [] [] h g to from = refl
ascending_same R once [] (y ∷ ys) h g to from = absurd (Contains-nil y (from y (Contains-here y ys)))
ascending_same R once (x ∷ xs) [] h g to from = absurd (Contains-nil x (to x (Contains-here x xs)))
ascending_same R once (x ∷ xs) (y ∷ ys) h g to from =
    let heads : x ≡ y = same_heads R once x y xs ys h g (to x (Contains-here x xs)) (from y (Contains-here y ys)) in
    let tails : xs ≡ ys = ascending_same R once xs ys (AllPairs-tail R x xs h) (AllPairs-tail R y ys g)
    (λ z c. in_tail R once x y z xs ys h heads c (to z (Contains-there x xs z c)))
    (λ z c. in_tail R once y x z ys xs g (sym heads) c (from z (Contains-there y ys z c))) in
    cc
  where
    same_heads : {X : Type 0} (R : X → X → Type 0) → ((x y : X) → R x y → R y x → ⊥) → (x y : X) (xs ys : List X) → AllPairs R (x ∷ xs) → AllPairs R (y ∷ ys) → Contains (y ∷ ys) x → Contains (x ∷ xs) y → x ≡ y
    same_heads R once x y xs ys h g c e = elim (Contains-cons_cases y ys x c) [
      | inl s ↦ sym s
      | inr k ↦ elim (Contains-cons_cases x xs y e) [
        | inl s ↦ s
        | inr m ↦ absurd (once x y (All-contains (R x) xs y (AllPairs-head R x xs h) m) (All-contains (R y) ys x (AllPairs-head R y ys g) k))
      ]
    ]

    in_tail : {X : Type 0} (R : X → X → Type 0) → ((x y : X) → R x y → R y x → ⊥) → (x y z : X) (xs ys : List X) → AllPairs R (x ∷ xs) → x ≡ y → Contains xs z → Contains (y ∷ ys) z → Contains ys z
    in_tail R once x y z xs ys h same c e = elim (Contains-cons_cases y ys z e) [
      | inl s ↦ (let loop : R x x = subst (λ t. R x t) (sym (same ∙ s)) (All-contains (R x) xs z (AllPairs-head R x xs h) c) in absurd (once x x loop loop))
      | inr k ↦ k
    ]

-- lists with one item behind them that are equal have equal last items
pub last_same : {X : Type 0} (xs ys : List X) (x y : X) → xs ++ x ∷ [] ≡ ys ++ y ∷ [] → x ≡ y
last_same [] [] x y e = cc
last_same [] (b ∷ ys) x y e = absurd (omega (arith, length-append ys (y ∷ []), ap (λ t. length t) e))
last_same (a ∷ xs) [] x y e = absurd (omega (arith, length-append xs (x ∷ []), ap (λ t. length t) e))
last_same (a ∷ xs) (b ∷ ys) x y e = last_same xs ys x y (cc)
