-- Two lists with numbers beside their items. Where each item of the first matches one of the second, no two the same, and i times the number of the one
-- is j times that of the other, i times the sum of the first numbers is at most j times that of the second.
use Rattle.std.proofs.Common.{◌≡◌, ◌≢◌, ℕ, ◌+◌, ◌*◌, ◌≤◌, inl, inr, List, [], ◌∷◌, sym, ◌∙◌, subst, subst₂, arith, AllPairs, Contains, sum}
use Rattle.std.specs.List.{AllZip}
use Rattle.std.proofs.lemmas.List.Elements.{All-contains}
use Rattle.std.proofs.lemmas.List.Sums.{sum_by-cons}
use Rattle.ht_word.proofs.ListLaws.{AllPairs-head, AllPairs-tail, Contains-cons_cases, Contains-here, Contains-nil, Contains-there}

-- an item and its number, and the others with theirs
record HasBeside {B : Type 0} (Q : B → ℕ → Type 0) (ys : List B) (ts : List ℕ) (y : B) : Type 0 where
  number : ℕ
  here : Q y number
  others : List B
  numbers : List ℕ
  zipped : AllZip Q others numbers
  whole : sum ts ≡ number + sum numbers
  left : (z : B) → Contains ys z → z ≢ y → Contains others z

beside : {B : Type 0} (Q : B → ℕ → Type 0) (ys : List B) (ts : List ℕ) (y : B) → AllZip Q ys ts → Contains ys y → HasBeside Q ys ts y
beside Q [] ts y zipped c = absurd (Contains-nil y c)
beside Q (z ∷ ys) [] y zipped c = absurd zipped
beside Q (z ∷ ys) (t ∷ ts) y zipped c = elim (Contains-cons_cases z ys y c) [
  | inl e ↦ record {
    number = t;
    here = subst (λ w. Q w t) e zipped.0;
    others = ys;
    numbers = ts;
    zipped = zipped.1;
    whole = sum_by-cons (λ (n : ℕ). n) t ts;
    left = λ w d other. elim (Contains-cons_cases z ys w d) [ inl f ↦ absurd (other (sym f ∙ e)) | inr k ↦ k ];
  }
  | inr k ↦ (let b = beside Q ys ts y zipped.1 k in record {
    number = b.number;
    here = b.here;
    others = z ∷ b.others;
    numbers = t ∷ b.numbers;
    zipped = (zipped.0, b.zipped);
    whole = omega (arith, sum_by-cons (λ (n : ℕ). n) t ts, sum_by-cons (λ (n : ℕ). n) t b.numbers, b.whole);
    left = λ w d other. elim (Contains-cons_cases z ys w d) [
      | inl f ↦ subst (Contains (z ∷ b.others)) f (Contains-here z b.others)
      | inr l ↦ Contains-there z b.others w (b.left w l other)
    ];
  })
]

module _ {A B : Type 0} (P : A → ℕ → Type 0) (Q : B → ℕ → Type 0) (R : A → B → Type 0) (i j : ℕ) (equal : (x : A) (y : B) (s t : ℕ) → R x y → P x s → Q y t → i * s ≡ j * t) (once : (x x' : A) (y : B) → R x y → R x' y → x ≡ x') where
  pub sum_injection : (xs : List A) (ss : List ℕ) (ys : List B) (ts : List ℕ) → AllPairs (λ (x : A) (y : A). x ≢ y) xs → AllZip P xs ss → AllZip Q ys ts
      → ((x : A) → Contains xs x → (y : B) × Contains ys y × R x y) → i * sum ss ≤ j * sum ts
  sum_injection [] [] ys ts apart first second match = none i (j * sum ts)
    where
      none : (i n : ℕ) → i * 0 ≤ n
      none i n = omega arith
  sum_injection [] (s ∷ ss) ys ts apart first second match = absurd first
  sum_injection (x ∷ xs) [] ys ts apart first second match = absurd first
  sum_injection (x ∷ xs) (s ∷ ss) ys ts apart first second match =
      let D = λ (t : A) (u : A). t ≢ u in
      let m = match x (Contains-here x xs) in
      let b = beside Q ys ts m.0 second m.1 in
      let rest = sum_injection xs ss b.others b.numbers (AllPairs-tail D x xs apart) first.1 b.zipped (λ z c.
      let n = match z (Contains-there x xs z c) in
      let other : n.0 ≢ m.0 = λ e. All-contains (D x) xs z (AllPairs-head D x xs apart) c (once x z m.0 m.2 (subst (R z) e n.2)) in
      (n.0, b.left n.0 n.1 other, n.2)) in
      joined i j s (sum ss) b.number (sum b.numbers) (sum (s ∷ ss)) (sum ts) (sum_by-cons (λ (n : ℕ). n) s ss) b.whole
      (equal x m.0 s b.number m.2 first.0 b.here) rest
    where
      joined : (i j s S t T all whole : ℕ) → all ≡ s + S → whole ≡ t + T → i * s ≡ j * t → i * S ≤ j * T → i * all ≤ j * whole
      joined i j s S t T all whole e f g l = subst₂ (λ m n. i * m ≤ j * n) (sym e) (sym f) (plain i j s S t T g l)
        where
          plain : (i j s S t T : ℕ) → i * s ≡ j * t → i * S ≤ j * T → i * (s + S) ≤ j * (t + T)
          plain i j s S t T g l = omega arith
