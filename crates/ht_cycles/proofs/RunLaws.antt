-- The runs of a sorted list of numbers: each number that stands in it, with the share of its count.
use Rattle.std.proofs.Common.{◌≡◌, ◌≢◌, ℕ, suc, ◌+◌, ◌<◌, ◌≤◌, ◌==◌, ◌⊎◌, inl, inr, Bool, true, false, cond, List, [], ◌∷◌, ◌++◌, length, get_or, drop, refl, sym, ap, ◌∙◌, subst, arith, Contains, Some, slice_get, add-one}
use Rattle.std.specs.Prelude.{AllPairs}
use Rattle.std.specs.List.{count_by}
use Rattle.std.specs.List.Sorted.{IsNonDecreasing}
use Rattle.std.proofs.Math.Seq.{drop-cons}
use Rattle.std.proofs.lemmas.Bool.Decides.{eqb_tells}
use Rattle.std.proofs.lemmas.List.{append_assoc}
use Rattle.std.proofs.lemmas.List.Elements.{All-contains}
use Rattle.std.proofs.lemmas.List.Sums.{sum_by-cons}
use Rattle.std.proofs.lemmas.Option.{slice_get_within, get_or_from_slice_get}
use Rattle.ht_word.proofs.ListLaws.{Contains-nil, Contains-here, Contains-there, Contains-cons_cases, AllPairs-head, AllPairs-tail, AllPairs-cons, AllPairs-nil}
use Rattle.ht_word.proofs.WordLaws.{All-from_contains}
use Rattle.ht_types.specs.declared.kind.Kind.{Kind}
use Rattle.ht_cycles.specs.Runs.{length_of, lengths_of, share, begins, runs}

-- ---- going over a list

-- what is left at a place is the element there and what is left behind it
pub left_at : {X : Type 0} (xs : List X) (place : ℕ) (x : X) → place < length xs → get_or xs place x ≡ x → drop place xs ≡ x ∷ drop (place + 1) xs
left_at xs place x l e = rw add-one (drop-cons xs place x l ∙ ap (λ t. t ∷ drop (suc place) xs) e)

-- one more kind is gone over
pub one_more_kind : (kinds : List Kind) (place : ℕ) (kind : Kind) (xs ys all : List ℕ) → slice_get kinds place ≡ Some kind → xs ++ lengths_of (drop place kinds) ≡ all → ys ≡ xs ++ length_of kind → ys ++ lengths_of (drop (place + 1) kinds) ≡ all
one_more_kind kinds place kind xs ys all here so_far added =
    ap (λ t. t ++ lengths_of (drop (place + 1) kinds)) added ∙ append_assoc xs (length_of kind) (lengths_of (drop (place + 1) kinds))
    ∙ ap (λ t. xs ++ lengths_of t) (sym (left_at kinds place kind (slice_get_within kinds place kind here) (get_or_from_slice_get kinds place kind kind here))) ∙ so_far

-- ---- counts

-- how often a number stands in the list
abbrev pub count_of : ℕ → List ℕ → ℕ
count_of m ks = count_by (λ k. k == m) ks

-- the same with so many more of the number that begins it
abbrev held : ℕ → ℕ → List ℕ → ℕ
held m count ks = count_of m ks + cond (begins m ks) count 0

-- no more of a number is no more of any
nothing_more : (b : Bool) → ◌≡◌ {A = ℕ} (cond b 0 0) 0
nothing_more true = refl
nothing_more false = refl

-- a number counts where it is the number
pub count_same : (m : ℕ) (ks : List ℕ) → count_of m (m ∷ ks) ≡ suc (count_of m ks)
count_same m ks = elim (eqb_tells m m) [
  | inl (is, e) ↦ omega (arith, sum_by-cons (λ (k : ℕ). cond (k == m) 1 0) m ks, ap {B = ℕ} (λ (b : Bool). cond b 1 0) is)
  | inr (isnt, n) ↦ absurd (n refl)
]

-- and not where it is another
pub count_other : (m k : ℕ) (ks : List ℕ) → k ≢ m → count_of m (k ∷ ks) ≡ count_of m ks
count_other m k ks other = elim (eqb_tells k m) [
  | inl (is, e) ↦ absurd (other e)
  | inr (isnt, n) ↦ omega (arith, sum_by-cons (λ (k : ℕ). cond (k == m) 1 0) k ks, ap {B = ℕ} (λ (b : Bool). cond b 1 0) isnt)
]

-- a number that isn't in the list stands in it no times
pub count_none : (m : ℕ) (ks : List ℕ) → ¬ Contains ks m → count_of m ks ≡ 0
count_none m [] none = refl
count_none m (k ∷ ks) none = elim (eqb_tells k m) [
  | inl (is, e) ↦ absurd (none (subst (Contains (k ∷ ks)) e (Contains-here k ks)))
  | inr (isnt, n) ↦ count_other m k ks n ∙ count_none m ks (λ c. none (Contains-there k ks m c))
]

-- one that is in it does some times
pub count_some : (m : ℕ) (ks : List ℕ) → Contains ks m → 1 ≤ count_of m ks
count_some m [] c = absurd (Contains-nil m c)
count_some m (k ∷ ks) c = elim (eqb_tells k m) [
  | inl (is, e) ↦ omega (arith, subst (λ t. count_of m (t ∷ ks) ≡ suc (count_of m ks)) (sym e) (count_same m ks))
  | inr (isnt, n) ↦ elim (Contains-cons_cases k ks m c) [ inl e ↦ absurd (n e) | inr d ↦ omega (arith, count_other m k ks n, count_some m ks d) ]
]

-- ---- what the runs are

-- in a sorted list a number that doesn't begin what stands behind it doesn't stand there
greater : (k : ℕ) (ks : List ℕ) → AllPairs (λ x y. x ≤ y) (k ∷ ks) → begins k ks ≡ false → (m : ℕ) → Contains ks m → k < m
greater k [] sorted isnt m c = absurd (Contains-nil m c)
greater k (h ∷ ks) sorted isnt m c = elim (eqb_tells k h) [
  | inl (is, e) ↦ cc
  | inr (other, n) ↦
      let low : k ≤ h = All-contains (λ y. k ≤ y) (h ∷ ks) h (AllPairs-head (λ x y. x ≤ y) k (h ∷ ks) sorted) (Contains-here h ks) in
      let high : h ≤ m = elim (Contains-cons_cases h ks m c) [
        | inl e ↦ omega arith
        | inr d ↦ All-contains (λ y. h ≤ y) ks m (AllPairs-head (λ x y. x ≤ y) h ks (AllPairs-tail (λ x y. x ≤ y) k (h ∷ ks) sorted)) d
      ] in
      omega arith
]

-- what begins the list is one number
begins_one : (k m : ℕ) (ks : List ℕ) → begins k ks ≡ true → k ≢ m → begins m ks ≡ false
begins_one k m [] is other = cc
begins_one k m (h ∷ ks) is other = elim (eqb_tells k h) [
  | inr (isnt, n) ↦ cc
  | inl (too, e) ↦ elim (eqb_tells m h) [ inl (found, d) ↦ absurd (other (e ∙ sym d)) | inr (isnt, n) ↦ isnt ]
]

-- a number before the list is held there, where it begins the list
held_more : (k count : ℕ) (ks : List ℕ) → begins k ks ≡ true → (m : ℕ) → held m count (k ∷ ks) ≡ held m (count + 1) ks
held_more k count ks is m = elim (eqb_tells m k) [
  | inl (same, e) ↦ subst (λ t. held t count (k ∷ ks) ≡ held t (count + 1) ks) (sym e) (itself k count ks is)
  | inr (isnt, n) ↦ omega (arith, count_other m k ks (λ e. n (sym e)), ap {B = ℕ} (λ (b : Bool). cond b count 0) isnt, ap {B = ℕ} (λ (b : Bool). cond b (count + 1) 0) (begins_one k m ks is (λ e. n (sym e))))
]
  where
    itself : (k count : ℕ) (ks : List ℕ) → begins k ks ≡ true → held k count (k ∷ ks) ≡ held k (count + 1) ks
    itself k count ks is = elim (eqb_tells k k) [
      | inl (same, e) ↦ omega (arith, count_same k ks, ap {B = ℕ} (λ (b : Bool). cond b count 0) same, ap {B = ℕ} (λ (b : Bool). cond b (count + 1) 0) is)
      | inr (isnt, n) ↦ absurd (n refl)
    ]

-- one that stands no more behind it
held_last : (k count : ℕ) (ks : List ℕ) → ¬ Contains ks k → held k count (k ∷ ks) ≡ count + 1
held_last k count ks none = elim (eqb_tells k k) [
  | inl (same, e) ↦ omega (arith, count_same k ks, count_none k ks none, ap {B = ℕ} (λ (b : Bool). cond b count 0) same)
  | inr (isnt, n) ↦ absurd (n refl)
]

-- another number
held_other : (k count : ℕ) (ks : List ℕ) (m : ℕ) → m ≢ k → held m count (k ∷ ks) ≡ held m 0 ks
held_other k count ks m other = elim (eqb_tells m k) [
  | inl (same, e) ↦ absurd (other e)
  | inr (isnt, n) ↦ omega (arith, count_other m k ks (λ e. n (sym e)), ap {B = ℕ} (λ (b : Bool). cond b count 0) isnt, nothing_more (begins m ks))
]

-- the list has each number of ks with the share of how often it is held
record AreRuns (n count : ℕ) (ks : List ℕ) (L : List (ℕ × ℕ)) : Type 0 where
  listed : (m c : ℕ) → Contains L (m, c) → Contains ks m × (c ≡ share n m (held m count ks))
  holds : (m : ℕ) → Contains ks m → Contains L (m, share n m (held m count ks))
  ascending : AllPairs (λ (d : ℕ × ℕ) (e : ℕ × ℕ). d.0 < e.0) L

-- a run goes on
run_on : (n k count : ℕ) (ks : List ℕ) (L : List (ℕ × ℕ)) → begins k ks ≡ true → AreRuns n (count + 1) ks L → AreRuns n count (k ∷ ks) L
run_on n k count ks L is rest = record {
  listed = λ m c h. let r = rest.listed m c h in (Contains-there k ks m r.0, r.1 ∙ ap (share n m) (sym (held_more k count ks is m)));
  holds = λ m h. subst (λ t. Contains L (m, share n m t)) (sym (held_more k count ks is m)) (rest.holds m (elim (Contains-cons_cases k ks m h) [ inl e ↦ subst (Contains ks) e (first k ks is) | inr c ↦ c ]));
  ascending = rest.ascending;
}
  where
    first : (k : ℕ) (ks : List ℕ) → begins k ks ≡ true → Contains ks k
    first k [] is = cc
    first k (h ∷ ks) is = elim (eqb_tells k h) [ inl (too, e) ↦ subst (Contains (h ∷ ks)) (sym e) (Contains-here h ks) | inr (isnt, n) ↦ cc ]

-- a run ends
run_ends : (n k count : ℕ) (ks : List ℕ) (L : List (ℕ × ℕ)) → ((m : ℕ) → Contains ks m → k < m) → AreRuns n 0 ks L → AreRuns n count (k ∷ ks) ((k, share n k (count + 1)) ∷ L)
run_ends n k count ks L above rest =
    let here : held k count (k ∷ ks) ≡ count + 1 = held_last k count ks (λ c. absurd (omega (arith, above k c))) in
    let other : (m : ℕ) → Contains ks m → held m count (k ∷ ks) ≡ held m 0 ks = λ m c. held_other k count ks m (λ e. absurd (omega (arith, above m c, e))) in
    let one : ℕ × ℕ = (k, share n k (count + 1)) in
    record {
      listed = λ m c h. elim (Contains-cons_cases one L (m, c) h) [
        | inl e ↦
            let first : k ≡ m = ap (λ (d : ℕ × ℕ). d.0) e in
            let second : share n k (count + 1) ≡ c = ap (λ (d : ℕ × ℕ). d.1) e in
            (subst (Contains (k ∷ ks)) first (Contains-here k ks), sym second ∙ subst (λ t. share n k (count + 1) ≡ share n t (held t count (k ∷ ks))) first (ap (share n k) (sym here)))
        | inr d ↦ let r = rest.listed m c d in (Contains-there k ks m r.0, r.1 ∙ ap (share n m) (sym (other m r.0)))
      ];
      holds = λ m h. elim (Contains-cons_cases k ks m h) [
        | inl e ↦ subst (λ t. Contains (one ∷ L) (t, share n t (held t count (k ∷ ks)))) e (subst (λ t. Contains (one ∷ L) (k, share n k t)) (sym here) (Contains-here one L))
        | inr c ↦ Contains-there one L (m, share n m (held m count (k ∷ ks))) (subst (λ t. Contains L (m, share n m t)) (sym (other m c)) (rest.holds m c))
      ];
      ascending = AllPairs-cons (λ (d : ℕ × ℕ) (e : ℕ × ℕ). d.0 < e.0) one L (All-from_contains (λ (e : ℕ × ℕ). k < e.0) L (λ e c. above e.0 (rest.listed e.0 e.1 c).0)) rest.ascending;
    }

-- the runs from a sorted list are so
are_runs : (n : ℕ) (ks : List ℕ) → AllPairs (λ x y. x ≤ y) ks → (count : ℕ) → AreRuns n count ks (runs n count ks)
are_runs n [] sorted count = record { listed = λ m c h. absurd (Contains-nil (m, c) h); holds = λ m h. absurd (Contains-nil m h); ascending = AllPairs-nil (λ (d : ℕ × ℕ) (e : ℕ × ℕ). d.0 < e.0) }
are_runs n (k ∷ ks) sorted count =
    let tail = AllPairs-tail (λ x y. x ≤ y) k ks sorted in
    let L = runs n (count + 1) ks in
    let M = (k, share n k (count + 1)) ∷ runs n 0 ks in
    elim (told (begins k ks)) [
      | inl is ↦ subst (λ b. AreRuns n count (k ∷ ks) (cond b L M)) (sym is) (run_on n k count ks L is (are_runs n ks tail (count + 1)))
      | inr isnt ↦ subst (λ b. AreRuns n count (k ∷ ks) (cond b L M)) (sym isnt) (run_ends n k count ks (runs n 0 ks) (greater k ks sorted isnt) (are_runs n ks tail 0))
    ]
  where
    told : (b : Bool) → (b ≡ true) ⊎ (b ≡ false)
    told true = inl refl
    told false = inr refl

-- the runs of a sorted list are its numbers, each with the share of its count, in ascending order
pub record AreShares (n : ℕ) (ks : List ℕ) (L : List (ℕ × ℕ)) : Type 0 where
  pub listed : (m c : ℕ) → Contains L (m, c) → Contains ks m × (c ≡ share n m (count_of m ks))
  pub holds : (m : ℕ) → Contains ks m → Contains L (m, share n m (count_of m ks))
  pub ascending : AllPairs (λ (d : ℕ × ℕ) (e : ℕ × ℕ). d.0 < e.0) L

pub sorted_runs : (n : ℕ) (ks : List ℕ) → IsNonDecreasing ks → AreShares n ks (runs n 0 ks)
sorted_runs n ks sorted =
    let r = are_runs n ks (λ i j d l m. sorted i j d (omega arith) m) 0 in
    record {
      listed = λ m c h. let e = r.listed m c h in (e.0, e.1 ∙ ap (share n m) (none m ks));
      holds = λ m h. subst (λ t. Contains (runs n 0 ks) (m, share n m t)) (none m ks) (r.holds m h);
      ascending = r.ascending;
    }
  where
    none : (m : ℕ) (ks : List ℕ) → held m 0 ks ≡ count_of m ks
    none m ks = omega (arith, nothing_more (begins m ks))
