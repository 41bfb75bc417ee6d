-- Lists f 1, f 2 to f k, and the ends of lists.
use Rattle.std.proofs.Common.{◌≡◌, ℕ, zero, suc, ◌≤◌, ◌<◌, ◌⊎◌, inl, inr, List, [], ◌∷◌, ◌++◌, length, map, get_or, take, refl, sym, ap, ◌∙◌, subst, arith, Contains}
use Rattle.std.proofs.lemmas.List.{length-append, map-append, get_or_append_left, append_cancel_left}
use Rattle.std.proofs.Math.Seq.{get_or-append_seam, take-append_seam}
use Rattle.std.proofs.lemmas.List.Elements.{Contains-append_left, Contains-append_right, Contains-append_cases}
use Rattle.ht_word.proofs.ListLaws.{Contains-nil, Contains-here, Contains-cons_cases}
use Rattle.ht_pair.specs.Merges.{each_to}

-- a list that isn't empty has a last entry
pub record HasLast {T : Type 0} (xs : List T) : Type 0 where
  pub front : List T
  pub last : T
  pub is : xs ≡ front ++ last ∷ []

pub has_last : {T : Type 0} (xs : List T) (x : T) → Contains xs x → HasLast xs
has_last [] x c = absurd (Contains-nil x c)
has_last (y ∷ []) x c = record { front = []; last = y; is = refl }
has_last (y ∷ z ∷ xs) x c =
    let h = has_last (z ∷ xs) z (Contains-here z xs) in
    record { front = y ∷ h.front; last = h.last; is = ap (λ t. y ∷ t) h.is }

-- an entry of a list with one more entry is in the list, or is that entry
pub in_front_or : {T : Type 0} (xs : List T) (x y : T) → Contains (xs ++ x ∷ []) y → Contains xs y ⊎ (x ≡ y)
in_front_or xs x y c = elim (Contains-append_cases xs (x ∷ []) y c) [
  | inl h ↦ inl h
  | inr h ↦ elim (Contains-cons_cases x [] y h) [ inl e ↦ inr e | inr n ↦ absurd (Contains-nil y n) ]
]

-- the list holds f 1 to f k, and nothing else
pub each_hold : {T : Type 0} (f : ℕ → T) (k a : ℕ) → 1 ≤ a → a ≤ k → Contains (each_to f k) (f a)
each_hold f zero a low high = absurd (omega arith)
each_hold f (suc k) a low high = elim (last_or k a high) [
  | inl l ↦ Contains-append_left (each_to f k) (f (suc k) ∷ []) (f a) (each_hold f k a low l)
  | inr e ↦ Contains-append_right (each_to f k) (f (suc k) ∷ []) (f a) (subst (λ j. Contains (f (suc k) ∷ []) (f j)) (sym e) (Contains-here (f (suc k)) []))
]
  where
    last_or : (k a : ℕ) → a ≤ suc k → (a ≤ k) ⊎ (a ≡ suc k)
    last_or k a l = grind arith

-- one of f 1 to f k
pub record IsEach {T : Type 0} (f : ℕ → T) (k : ℕ) (t : T) : Type 0 where
  pub letter : ℕ
  pub low : 1 ≤ letter
  pub high : letter ≤ k
  pub is : t ≡ f letter

pub each_of : {T : Type 0} (f : ℕ → T) (k : ℕ) (t : T) → Contains (each_to f k) t → IsEach f k t
each_of f zero t c = absurd (Contains-nil t c)
each_of f (suc k) t c = elim (in_front_or (each_to f k) (f (suc k)) t c) [
  | inl h ↦ (let g = each_of f k t h in record { letter = g.letter; low = g.low; high = omega (arith, g.high); is = g.is })
  | inr e ↦ record { letter = suc k; low = omega arith; high = omega arith; is = sym e }
]

pub length-each : {T : Type 0} (f : ℕ → T) (k : ℕ) → length (each_to f k) ≡ k
length-each f zero = refl
length-each f (suc k) = omega (arith, length-append (each_to f k) (f (suc k) ∷ []), length-each f k)

pub each-map : {S T : Type 0} (g : S → T) (f : ℕ → S) (k : ℕ) → map g (each_to f k) ≡ each_to (λ c. g (f c)) k
each-map g f zero = refl
each-map g f (suc k) = map-append g (each_to f k) (f (suc k) ∷ []) ∙ ap (λ t. t ++ g (f (suc k)) ∷ []) (each-map g f k)

-- the entry at a place, counted from 0
pub each-get : {T : Type 0} (f : ℕ → T) (k place : ℕ) (d : T) → place < k → get_or (each_to f k) place d ≡ f (suc place)
each-get f zero place d l = absurd (omega arith)
each-get f (suc k) place d l = elim (less_or place k l) [
  | inl m ↦ get_or_append_left (each_to f k) (f (suc k) ∷ []) d place (omega (arith, length-each f k)) ∙ each-get f k place d m
  | inr e ↦ ap (λ j. get_or (each_to f (suc k)) j d) (e ∙ sym (length-each f k)) ∙ get_or-append_seam (each_to f k) (f (suc k)) [] d ∙ ap (λ j. f (suc j)) (sym e)
]
  where
    less_or : (i k : ℕ) → i < suc k → (i < k) ⊎ (i ≡ k)
    less_or i k l = grind arith

-- equal lists have equal parts where the last parts have one length
pub equal_parts : {T : Type 0} (s t y z : List T) → s ++ y ≡ t ++ z → length y ≡ length z → (s ≡ t) × (y ≡ z)
equal_parts {T} s t y z e l =
    let long : length s ≡ length t = omega (arith, length-append s y, length-append t z, ap (λ (x : List T). length x) e) in
    let fronts : s ≡ t = sym (take-append_seam s y) ∙ ap (λ x. take (length s) x) e ∙ ap (λ j. take j (t ++ z)) long ∙ take-append_seam t z in
    (fronts, append_cancel_left s y z (e ∙ ap (λ x. x ++ z) (sym fronts)))
