-- Slots for the value lists at the places of an atom, filled one after another.
use Rattle.std.proofs.Common.{◌≡◌, ℕ, zero, suc, ◌<◌, ◌⊎◌, inl, inr, List, [], ◌∷◌, ◌++◌, length, take, drop, All, Contains, replicate, Option, None, Some, slice_get, slice_set, refl, sym, ap, ◌∙◌, subst, arith}
use Rattle.std.proofs.lemmas.Option.{same_Some}
use Rattle.std.proofs.lemmas.List.{length-append}
use Rattle.std.proofs.lemmas.List.Elements.{All-append, All-cons, All-contains, All-nil, Contains-append_left, Contains-append_right}
use Rattle.ht_word.proofs.ListLaws.{Contains-here}
use Rattle.ht_word.proofs.WordLaws.{All-from_contains}
use Rattle.ht_quasi.proofs.StepLaws.{at_push}
use Rattle.ht_pair.specs.Images.{Entry}
use Rattle.ht_types.specs.TypedElements.{TypedValue}
use Rattle.ht_local.specs.declared.known.Known.{Known}
use Rattle.ht_local.specs.PlacedLists.{AreSlotsAt, IsListAt, KeepsLists}

-- what a list holds once one entry is set
pub set_cases : {T : Type 0} (xs : List T) (i j : ℕ) (x y : T) → slice_get (slice_set xs i x) j ≡ Some y → ((j ≡ i) × (x ≡ y)) ⊎ (slice_get xs j ≡ Some y)
set_cases [] i j x y e = inr e
set_cases (a ∷ xs) zero zero x y e = inl (refl, same_Some x y e)
set_cases (a ∷ xs) zero (suc j) x y e = inr e
set_cases (a ∷ xs) (suc i) zero x y e = inr e
set_cases (a ∷ xs) (suc i) (suc j) x y e = elim (set_cases xs i j x y e) [ inl h ↦ inl (ap suc h.0, h.1) | inr h ↦ inr h ]

pub set_here : {T : Type 0} (xs : List T) (i : ℕ) (x : T) → i < length xs → slice_get (slice_set xs i x) i ≡ Some x
set_here [] i x l = absurd (omega arith)
set_here (a ∷ xs) zero x l = refl
set_here (a ∷ xs) (suc i) x l = set_here xs i x (omega arith)

pub set_other : {T : Type 0} (xs : List T) (i j : ℕ) (x y : T) → slice_get xs j ≡ Some y → (j ≡ i → ⊥) → slice_get (slice_set xs i x) j ≡ Some y
set_other [] i j x y e n = e
set_other (a ∷ xs) zero zero x y e n = absurd (n refl)
set_other (a ∷ xs) zero (suc j) x y e n = e
set_other (a ∷ xs) (suc i) zero x y e n = e
set_other (a ∷ xs) (suc i) (suc j) x y e n = set_other xs i j x y e (λ h. n (ap suc h))

pub length-slice_set : {T : Type 0} (xs : List T) (i : ℕ) (x : T) → length (slice_set xs i x) ≡ length xs
length-slice_set [] i x = refl
length-slice_set (a ∷ xs) zero x = refl
length-slice_set (a ∷ xs) (suc i) x = omega (arith, length-slice_set xs i x)

none_replicated : {T : Type 0} (n i : ℕ) (o : Option T) (x : T) → o ≡ None → ¬ (slice_get (replicate n o) i ≡ Some (Some x))
none_replicated zero i o x n e = cc
none_replicated (suc m) zero o x n e = cc
none_replicated (suc m) (suc i) o x n e = none_replicated m i o x n e

pub length-copies : {T : Type 0} (n : ℕ) (o : T) → length (replicate n o) ≡ n
length-copies zero o = refl
length-copies (suc n) o = omega (arith, length-copies n o)

-- what stands in a list stands in a longer one
pub longer_get : {T : Type 0} (xs ys : List T) (i : ℕ) (x : T) → slice_get xs i ≡ Some x → slice_get (xs ++ ys) i ≡ Some x
longer_get [] ys i x e = absurd cc
longer_get (a ∷ xs) ys zero x e = e
longer_get (a ∷ xs) ys (suc i) x e = longer_get xs ys i x e

pub last_get : {T : Type 0} (xs : List T) (x : T) → slice_get (xs ++ x ∷ []) (length xs) ≡ Some x
last_get [] x = refl
last_get (a ∷ xs) x = last_get xs x

-- indices and one more
pub pushed : (old new : List ℕ) (at n : ℕ) → new ≡ old ++ at ∷ [] → at < n → All (λ (i : ℕ). i < n) old → All (λ (i : ℕ). i < n) new
pushed old new at n is l all = subst (All (λ (i : ℕ). i < n)) (sym is) (All-append (λ (i : ℕ). i < n) old (at ∷ []) all (All-cons (λ (i : ℕ). i < n) at [] l (All-nil (λ (i : ℕ). i < n))))

-- the last of indices, and those before it
pub popped : (old new : List ℕ) (at n : ℕ) → old ≡ new ++ at ∷ [] → All (λ (i : ℕ). i < n) old → (at < n) × All (λ (i : ℕ). i < n) new
popped old new at n is all = (
  All-contains (λ (i : ℕ). i < n) old at all (subst (λ xs. Contains xs at) (sym is) (Contains-append_right new (at ∷ []) at (Contains-here at []))),
  All-from_contains (λ (i : ℕ). i < n) new (λ i c. All-contains (λ (j : ℕ). j < n) old i all (subst (λ xs. Contains xs i) (sym is) (Contains-append_left new (at ∷ []) i c))),
)

module _ {f : TypedValue} {k : List ℕ} {g : TypedValue} {known : List (Option Known)} where
  pub no_slots : (slots : List (Option (List Entry))) → slots ≡ replicate (length k) None → AreSlotsAt f k g known slots
  no_slots slots is = record {
    as_many = ap (λ (s : List (Option (List Entry))). length s) is ∙ length-copies (length k) None;
    each = λ i place L at there. absurd (none_replicated (length k) i None L refl (sym (ap (λ s. slice_get s i) is) ∙ there));
  }

  pub slot_set : (old new : List (Option (List Entry))) (at : ℕ) (L : List Entry) → AreSlotsAt f k g known old → ((place : ℕ) → slice_get k at ≡ Some place → IsListAt f k g known place L)
      → new ≡ slice_set old at (Some L) → AreSlotsAt f k g known new
  slot_set old new at L slots here is = subst (AreSlotsAt f k g known) (sym is) (record {
    as_many = length-slice_set old at (Some L) ∙ slots.as_many;
    each = λ i place M there e. elim (set_cases old at i (Some L) (Some M) e) [
      | inl h ↦ subst (IsListAt f k g known place) (same_Some L M h.1) (here place (sym (ap (λ j. slice_get k j) h.0) ∙ there))
      | inr h ↦ slots.each i place M there h
    ];
  })

-- the first slots, with a list for each
pub record AreSettled (f : TypedValue) (k : List ℕ) (g : TypedValue) (known : List (Option Known)) (slots : List (Option (List Entry))) (lists : List (List Entry)) : Type 0 where
  pub as_many : length lists ≡ length slots
  pub each : (i place : ℕ) (L : List Entry) → slice_get k i ≡ Some place → slice_get lists i ≡ Some L → IsListAt f k g known place L
  pub same : (i : ℕ) (L : List Entry) → slice_get slots i ≡ Some (Some L) → slice_get lists i ≡ Some L

pub one_settled : {f : TypedValue} {k : List ℕ} {g : TypedValue} {known : List (Option Known)} (slots : List (Option (List Entry))) (lists : List (List Entry)) (slot : Option (List Entry)) (L : List Entry)
    → AreSettled f k g known slots lists → ((place : ℕ) → slice_get k (length lists) ≡ Some place → IsListAt f k g known place L) → ((M : List Entry) → slot ≡ Some M → L ≡ M)
    → AreSettled f k g known (slots ++ slot ∷ []) (lists ++ L ∷ [])
one_settled {f} {k} {g} {known} slots lists slot L settled list same = record {
  as_many = omega (arith, settled.as_many, length-append lists (L ∷ []), length-append slots (slot ∷ []));
  each = λ i place M at e. elim (at_push lists L M i e) [
    | inl h ↦ settled.each i place M at h
    | inr h ↦ subst (IsListAt f k g known place) h.1 (list place (sym (ap (λ j. slice_get k j) h.0) ∙ at))
  ];
  same = λ i M e. elim (at_push slots slot (Some M) i e) [
    | inl h ↦ longer_get lists (L ∷ []) i M (settled.same i M h)
    | inr h ↦ (
        let last : i ≡ length lists = h.0 ∙ sym settled.as_many in
        subst (λ j. slice_get (lists ++ L ∷ []) j ≡ Some M) (sym last) (last_get lists L ∙ ap Some (same M h.1)))
  ];
}

-- setting an empty slot keeps the lists
pub set_keeps : (old new : List (Option (List Entry))) (at : ℕ) (L : List Entry) → slice_get old at ≡ Some None → new ≡ slice_set old at (Some L) → KeepsLists old new
set_keeps old new at L empty is = λ i M e. subst (λ s. slice_get s i ≡ Some (Some M)) (sym is) (set_other old at i (Some L) (Some M) e (λ h. nothing i M e h))
  where
    nothing : (i : ℕ) (M : List Entry) → slice_get old i ≡ Some (Some M) → i ≡ at → ⊥
    nothing i M e h = let o : None ≡ Some M = same_Some None (Some M) (sym empty ∙ sym (ap (λ j. slice_get old j) h) ∙ e) in cc

pub keeps_trans : (a b c : List (Option (List Entry))) → KeepsLists a b → KeepsLists b c → KeepsLists a c
keeps_trans a b c first second = λ i L e. second i L (first i L e)

-- what is written back over all of a list
pub written_back : {T : Type 0} (xs ys : List T) (n : ℕ) → n ≡ length xs → take n (xs ++ drop (length xs) ys) ≡ xs
written_back {T} [] ys n e = ap (λ (m : ℕ). take m (drop 0 ys)) e
written_back {T} (x ∷ xs) ys zero e = absurd (omega arith)
written_back {T} (x ∷ xs) (y ∷ ys) (suc n) e = ap (λ (zs : List T). x ∷ zs) (written_back xs ys n (omega arith))
written_back {T} (x ∷ xs) [] (suc n) e = ap (λ (zs : List T). x ∷ zs) (none xs n (omega arith))
  where
    none : (xs : List T) (n : ℕ) → n ≡ length xs → take n (xs ++ []) ≡ xs
    none [] n e = ap (λ (m : ℕ). take m []) e
    none (x ∷ xs) zero e = absurd (omega arith)
    none (x ∷ xs) (suc n) e = ap (λ (zs : List T). x ∷ zs) (none xs n (omega arith))
