-- The common period of the ends of walks, word by word.
use Rattle.std.proofs.Common.{◌≡◌, ℕ, zero, suc, ◌+◌, ◌≤◌, ◌<◌, ◌↔◌, ◌⊎◌, inl, inr, List, [], ◌∷◌, length, take, drop, take-append-drop, Some, slice_get, refl, sym, ap, ◌∙◌, subst, arith, Contains}
use Rattle.std.specs.Int.{◌∣◌}
use Rattle.std.proofs.lemmas.List.{drop_all, drop_more}
use Rattle.std.proofs.lemmas.List.Elements.{Contains-append_right}
use Rattle.std.proofs.lemmas.Nat.Gcd.{dvd-zero, dvd_refl, dvd_trans, le_of_dvd}
use Rattle.std.proofs.lemmas.Option.{slice_get_within, get_or_from_slice_get}
use Rattle.ht_word.specs.declared.word.Word.{Word}
use Rattle.ht_word.proofs.ListLaws.{Contains-nil, Contains-here, Contains-there, Contains-cons_cases}
use Rattle.ht_num.specs.Numbers.{IsLeastMultiple, IsLcm, IsWide}
use Rattle.ht_num.proofs.NumberLaws.{lcm_exists, least_multiple_divides, least_multiple_same, least_same}
use Rattle.ht_pair.specs.Kinds.{IsAttractor, IsRepeller}
use Rattle.ht_pair.specs.Rates.{IsPeriod}
use Rattle.ht_pair.proofs.KindLaws.{attractor_no_repeller, attractor_once, cycle_no_attractor, cycle_no_repeller, repeller_once}
use Rattle.ht_quasi.proofs.KeptLaws.{entry_at}
use Rattle.ht_quasi.proofs.RoundLaws.{something_at}
use Rattle.ht_types.specs.declared.kind.Kind.{Kind}
use Rattle.ht_types.specs.declared.kind.Kind.TheVariants.{Cycle, Attractor, Repeller, Passing}
use Rattle.ht_types.specs.TypedElements.{TypedValue, IsTyped}
use Rattle.ht_types.specs.WordKinds.{HasKind}
use Rattle.ht_power.specs.RatesTold.{HasPeriod, IsJoined}

-- ---- the kinds of a typed element

abbrev pub Typed : TypedValue → Type 0
Typed t = IsTyped t.element t.quasi t.kinds

-- t's word x is of the kind
abbrev pub Has : TypedValue → Word → Kind → Type 0
Has t x kind = HasKind t.element.shape t.element.rows t.quasi.basis.words x kind

-- each word of the basis is of some kind
pub kind_known : (t : TypedValue) → Typed t → (x : Word) → Contains t.quasi.basis.words x → (kind : Kind) × Has t x kind
kind_known t typed x c =
    let inside : c.0 < length t.quasi.basis.words = c.1 in
    let kind = something_at t.kinds c.0 (omega (arith, typed.kinds_are.as_many, inside)) in
    (kind.0, typed.kinds_are.each c.0 x kind.0 (entry_at t.quasi.basis.words c.0 x x inside c.2) kind.1)

-- a word whose kind is no end has no period
pub no_period : (t : TypedValue) → Typed t → (x : Word) (kind : Kind) → Has t x kind → ((m : ℕ) (by : List ℕ) → ¬ (kind ≡ Attractor m by))
    → ((m : ℕ) (by : List ℕ) → ¬ (kind ≡ Repeller m by)) → (m : ℕ) → ¬ HasPeriod t x m
no_period t typed x (Cycle k) h other behind m (by, end) = elim end [
  | inl a ↦ cycle_no_attractor t.element.shape t.element.rows typed.canonical.pair x k m by h a
  | inr r ↦ cycle_no_repeller t.element.shape t.element.rows typed.canonical.pair x k m by h r
]
no_period t typed x (Attractor k z) h other behind m end = other k z refl
no_period t typed x (Repeller k z) h other behind m end = behind k z refl
no_period t typed x (Passing ahead back) h other behind m (by, end) = elim end [ inl a ↦ h.0.1 (m, by, a) | inr r ↦ h.0.2 (m, by, r) ]

-- of each word of the basis it is known whether it has a period
pub period_or_not : (t : TypedValue) → Typed t → (x : Word) → Contains t.quasi.basis.words x
    → ((m : ℕ) × HasPeriod t x m) ⊎ ((m : ℕ) → ¬ HasPeriod t x m)
period_or_not t typed x c = let known = kind_known t typed x c in tell known.0 known.1
  where
    tell : (kind : Kind) → Has t x kind → ((m : ℕ) × HasPeriod t x m) ⊎ ((m : ℕ) → ¬ HasPeriod t x m)
    tell (Cycle k) h = inr (no_period t typed x (Cycle k) h (λ m by e. cc) (λ m by e. cc))
    tell (Attractor k by) h = inl (k, (by, inl h))
    tell (Repeller k by) h = inl (k, (by, inr h))
    tell (Passing ahead behind) h = inr (no_period t typed x (Passing ahead behind) h (λ m by e. cc) (λ m by e. cc))

-- a word has one period
pub period_once : (t : TypedValue) → Typed t → (x : Word) (m k : ℕ) → HasPeriod t x m → HasPeriod t x k → m ≡ k
period_once t typed x m k (y, end) (z, other) = elim end [
  | inl a ↦ elim other [
    | inl b ↦ (attractor_once t.element.shape t.element.rows typed.canonical.pair x m k y z a b).0
    | inr s ↦ absurd (attractor_no_repeller t.element.shape t.element.rows typed.canonical.pair x m k y z a s)
  ]
  | inr r ↦ elim other [
    | inl b ↦ absurd (attractor_no_repeller t.element.shape t.element.rows typed.canonical.pair x k m z y b r)
    | inr s ↦ (repeller_once t.element.shape t.element.rows typed.canonical.pair x m k y z r s).0
  ]
]

-- and it is from 1 on
pub period_positive : (t : TypedValue) (x : Word) (m : ℕ) → HasPeriod t x m → 1 ≤ m
period_positive t x m (by, end) = elim end [ inl a ↦ a.first.positive | inr r ↦ r.first.positive ]

-- ---- least common multiples

-- the least common multiple divides each common one, also 0
pub least_divides : {P : ℕ → Type 0} {k : ℕ} → IsLeastMultiple P k → (j : ℕ) → ((m : ℕ) → P m → m ∣ j) → k ∣ j
least_divides {k = k} h zero each = dvd-zero k
least_divides h (suc j) each = least_multiple_divides h (suc j) (omega arith) each

-- that of two numbers stands for both
joins : {Q R : ℕ → Type 0} (number m joined k : ℕ) → IsLcm number m joined → ((i : ℕ) → R i ↔ ((i ≡ m) ⊎ Q i))
    → IsLeastMultiple (λ i. (i ≡ joined) ⊎ Q i) k → IsLeastMultiple (λ i. (i ≡ number) ⊎ R i) k
joins {Q} {R} number m joined k lcm same least = least_same (λ j. (i : ℕ) → (i ≡ joined) ⊎ Q i → i ∣ j) (λ j. (i : ℕ) → (i ≡ number) ⊎ R i → i ∣ j)
    (λ j each i either. elim either [
      | inl e ↦ dvd_trans i (lcm.holds i (inl e)) (each joined (inl refl))
      | inr r ↦ elim ((same i).0 r) [
        | inl e ↦ dvd_trans i (lcm.holds i (inr e)) (each joined (inl refl))
        | inr q ↦ each i (inr q)
      ]
    ])
    (λ j each i either. elim either [
      | inl e ↦ subst (λ (n : ℕ). n ∣ j) (sym e) (least_divides lcm j (λ n two. elim two [
        | inl a ↦ each n (inl a)
        | inr b ↦ each n (inr ((same n).1 (inl b)))
      ]))
      | inr q ↦ each i (inr ((same i).1 (inr q)))
    ])
    k least

-- ---- the joined period

-- the periods of one more word
period_cases : (t : TypedValue) (x : Word) (W : List Word) (i : ℕ) → IsPeriod t.element.shape t.element.rows (x ∷ W) i
    → HasPeriod t x i ⊎ IsPeriod t.element.shape t.element.rows W i
period_cases t x W i (y, by, c, end) = elim (Contains-cons_cases x W y c) [
  | inl e ↦ inl (subst (λ z. HasPeriod t z i) (sym e) (by, end))
  | inr d ↦ inr (y, by, d, end)
]

-- those of the others
period_there : (t : TypedValue) (x : Word) (W : List Word) (i : ℕ) → IsPeriod t.element.shape t.element.rows W i
    → IsPeriod t.element.shape t.element.rows (x ∷ W) i
period_there t x W i (y, by, c, end) = (y, by, Contains-there x W y c, end)

-- no words join a number
pub joined_none : (t : TypedValue) (number : ℕ) → 1 ≤ number → IsJoined t [] number number
joined_none t number low = record {
  positive = low;
  holds = λ m either. elim either [ inl e ↦ subst (λ n. m ∣ n) e (dvd_refl m) | inr p ↦ absurd (Contains-nil p.0 p.2) ];
  least = λ j low_j less each. omega (arith, less, le_of_dvd low_j (each number (inl refl)));
}

-- one more word that is an end
pub joined_more : (t : TypedValue) → Typed t → (x : Word) (W : List Word) (number m joined k : ℕ) → HasPeriod t x m → IsLcm number m joined
    → IsJoined t W joined k → IsJoined t (x ∷ W) number k
joined_more t typed x W number m joined k end lcm least = joins number m joined k lcm (λ i. (
  (λ p. elim (period_cases t x W i p) [ inl other ↦ inl (period_once t typed x i m other end) | inr q ↦ inr q ]),
  (λ either. elim either [ inl e ↦ (x, end.0, Contains-here x W, subst (λ n. IsAttractor t.element.shape t.element.rows x n end.0 ⊎ IsRepeller t.element.shape t.element.rows x n end.0) (sym e) end.1) | inr q ↦ period_there t x W i q ]),
)) least

-- and one that is none
pub joined_same : (t : TypedValue) (x : Word) (W : List Word) (number k : ℕ) → ((m : ℕ) → ¬ HasPeriod t x m) → IsJoined t W number k
    → IsJoined t (x ∷ W) number k
joined_same t x W number k none least = least_multiple_same (λ m. (
  (λ either. elim either [ inl e ↦ inl e | inr p ↦ inr (period_there t x W m p) ]),
  (λ either. elim either [ inl e ↦ inl e | inr p ↦ elim (period_cases t x W m p) [ inl end ↦ absurd (none m end) | inr q ↦ inr q ] ]),
)) least

-- the words of a list join a number
pub joined_exists : (t : TypedValue) → Typed t → (W : List Word) → ((x : Word) → Contains W x → Contains t.quasi.basis.words x) → (number : ℕ)
    → 1 ≤ number → (k : ℕ) × IsJoined t W number k
joined_exists t typed [] among number low = (number, joined_none t number low)
joined_exists t typed (x ∷ W) among number low = elim (period_or_not t typed x (among x (Contains-here x W))) [
  | inl end ↦
      let joined = lcm_exists number end.0 low (period_positive t x end.0 end.1) in
      let rest = joined_exists t typed W (λ y c. among y (Contains-there x W y c)) joined.0 joined.1.positive in
      (rest.0, joined_more t typed x W number end.0 joined.0 rest.0 end.1 joined.1 rest.1)
  | inr none ↦
      let rest = joined_exists t typed W (λ y c. among y (Contains-there x W y c)) number low in
      (rest.0, joined_same t x W number rest.0 none rest.1)
]

-- to no less a number
pub joined_le : (t : TypedValue) (W : List Word) (number k : ℕ) → IsJoined t W number k → number ≤ k
joined_le t W number k least = le_of_dvd least.positive (least.holds number (inl refl))

-- ---- from place to place

-- the words from a place on
pub words_from : (X : List Word) (place : ℕ) (x : Word) → slice_get X place ≡ Some x → drop place X ≡ x ∷ drop (place + 1) X
words_from X place x here = drop_more X place x (slice_get_within X place x here) ∙ ap (λ y. y ∷ drop (place + 1) X) (get_or_from_slice_get X place x x here)

-- they are among all
pub from_among : (X : List Word) (place : ℕ) (x : Word) → Contains (drop place X) x → Contains X x
from_among X place x c = subst (λ (W : List Word). Contains W x) (take-append-drop place X) (Contains-append_right (take place X) (drop place X) x c)

-- what joins the number to the words from a place on joins the first number to all words
abbrev pub Joins : TypedValue → ℕ → ℕ → ℕ → Type 0
Joins t first place number = (k : ℕ) → IsJoined t (drop place t.quasi.basis.words) number k → IsJoined t t.quasi.basis.words first k

-- so it is from the next place on, where the word at this place is an end
pub joins_more : (t : TypedValue) → Typed t → (first place number m joined : ℕ) → place < length t.quasi.basis.words
    → ((x : Word) → slice_get t.quasi.basis.words place ≡ Some x → HasPeriod t x m) → IsLcm number m joined → Joins t first place number
    → Joins t first (place + 1) joined
joins_more t typed first place number m joined inside end lcm before k least =
    let X = t.quasi.basis.words in
    let x = something_at X place inside in
    before k (subst (λ (W : List Word). IsJoined t W number k) (sym (words_from X place x.0 x.1)) (joined_more t typed x.0 (drop (place + 1) X) number m joined k (end x.0 x.1) lcm least))

-- and where it is none
pub joins_same : (t : TypedValue) (first place number : ℕ) → place < length t.quasi.basis.words
    → ((x : Word) → slice_get t.quasi.basis.words place ≡ Some x → (m : ℕ) → ¬ HasPeriod t x m) → Joins t first place number
    → Joins t first (place + 1) number
joins_same t first place number inside none before k least =
    let X = t.quasi.basis.words in
    let x = something_at X place inside in
    before k (subst (λ (W : List Word). IsJoined t W number k) (sym (words_from X place x.0 x.1)) (joined_same t x.0 (drop (place + 1) X) number k (none x.0 x.1) least))

-- once a number that is joined is wide, so is that of all words
pub joins_wide : (t : TypedValue) → Typed t → (first place joined : ℕ) → 1 ≤ joined → IsWide joined → Joins t first place joined
    → (k : ℕ) × IsJoined t t.quasi.basis.words first k × IsWide k
joins_wide t typed first place joined low wide before =
    let rest = joined_exists t typed (drop place t.quasi.basis.words) (from_among t.quasi.basis.words place) joined low in
    (rest.0, before rest.0 rest.1, omega (arith, wide, joined_le t (drop place t.quasi.basis.words) joined rest.0 rest.1))

-- behind the last word nothing joins
pub joins_all : (t : TypedValue) (first place number : ℕ) → length t.quasi.basis.words ≤ place → 1 ≤ number → Joins t first place number
    → IsJoined t t.quasi.basis.words first number
joins_all t first place number far low before = before number (subst (λ (W : List Word). IsJoined t W number number) (sym (drop_all place t.quasi.basis.words far)) (joined_none t number low))
