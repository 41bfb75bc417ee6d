-- The first element of a list with a property that is decided, and searches that end.
--
--     IsFirst P X x    x is the first element of X with the property
use Rattle.std.proofs.Common.{◌≡◌, ℕ, zero, suc, ◌<◌, ◌⊎◌, inl, inr, List, [], ◌∷◌, refl, sym, ◌∙◌, subst, arith, Contains}
use Rattle.std.proofs.lemmas.Bool.{cases_lt}
use Rattle.ht_word.proofs.ListLaws.{Contains-nil, Contains-here, Contains-there, Contains-cons_cases}

abbrev pub IsFirst : {A : Type 0} → (A → Type 0) → List A → A → Type 0
IsFirst P [] x = ⊥
IsFirst P (y ∷ X) x = (P y × (y ≡ x)) ⊎ (¬ P y × IsFirst P X x)

-- some element with the property is the first
pub first_exists : {A : Type 0} (P : A → Type 0) → ((x : A) → P x ⊎ ¬ P x) → (X : List A) (x : A) → Contains X x → P x → (y : A) × IsFirst P X y
first_exists P decided [] x c h = absurd (Contains-nil x c)
first_exists P decided (z ∷ X) x c h = elim (decided z) [
  | inl here ↦ (z, inl (here, refl))
  | inr n ↦ elim (Contains-cons_cases z X x c) [
    | inl e ↦ absurd (n (subst P (sym e) h))
    | inr k ↦ (let f = first_exists P decided X x k h in (f.0, inr (n, f.1)))
  ]
]

-- there is one first element
pub first_once : {A : Type 0} (P : A → Type 0) (X : List A) (x y : A) → IsFirst P X x → IsFirst P X y → x ≡ y
first_once P [] x y h g = absurd h
first_once P (z ∷ X) x y (inl h) (inl g) = sym h.1 ∙ g.1
first_once P (z ∷ X) x y (inl h) (inr g) = absurd (g.0 h.0)
first_once P (z ∷ X) x y (inr h) (inl g) = absurd (h.0 g.0)
first_once P (z ∷ X) x y (inr h) (inr g) = first_once P X x y h.1 g.1

-- the same elements have the same first one
pub first_same : {A : Type 0} (P Q : A → Type 0) → ((x : A) → P x → Q x) → ((x : A) → Q x → P x) → (X : List A) (x : A) → IsFirst P X x → IsFirst Q X x
first_same P Q to from [] x h = h
first_same P Q to from (z ∷ X) x (inl h) = inl (to z h.0, h.1)
first_same P Q to from (z ∷ X) x (inr h) = inr ((λ q. h.0 (from z q)), first_same P Q to from X x h.1)

-- it is an element with the property
pub first_holds : {A : Type 0} (P : A → Type 0) (X : List A) (x : A) → IsFirst P X x → Contains X x × P x
first_holds P [] x h = absurd h
first_holds P (z ∷ X) x (inl h) = (subst (Contains (z ∷ X)) h.1 (Contains-here z X), subst P h.1 h.0)
first_holds P (z ∷ X) x (inr h) = let f = first_holds P X x h.1 in (Contains-there z X x f.0, f.1)

-- each element has one property, or some element has the other
pub each_or_some : {A : Type 0} (P Q : A → Type 0) (X : List A) → ((x : A) → Contains X x → P x ⊎ Q x) → ((x : A) → Contains X x → P x) ⊎ ((x : A) × Contains X x × Q x)
each_or_some P Q [] either = inl (λ x c. absurd (Contains-nil x c))
each_or_some P Q (z ∷ X) either = elim (either z (Contains-here z X)) [
  | inr q ↦ inr (z, Contains-here z X, q)
  | inl p ↦ elim (each_or_some P Q X (λ x c. either x (Contains-there z X x c))) [
    | inr s ↦ inr (s.0, Contains-there z X s.0 s.1, s.2)
    | inl all ↦ inl (λ x c. elim (Contains-cons_cases z X x c) [ inl e ↦ subst P e p | inr k ↦ all x k ])
  ]
]

-- some number below n has the property, or none
pub some_below : (P : ℕ → Type 0) → ((k : ℕ) → P k ⊎ ¬ P k) → (n : ℕ) → ((k : ℕ) × (k < n) × P k) ⊎ ((k : ℕ) → k < n → ¬ P k)
some_below P decided zero = inr (λ k l. absurd (omega arith))
some_below P decided (suc n) = elim (some_below P decided n) [
  | inl s ↦ inl (s.0, (let l = s.1 in omega arith), s.2)
  | inr none ↦ elim (decided n) [
    | inl here ↦ inl (n, omega arith, here)
    | inr m ↦ inr (λ k l. elim (cases_lt k n) [ inl less ↦ none k less | inr more ↦ (let e : n ≡ k = omega arith in subst (λ i. ¬ P i) e m) ])
  ]
]
