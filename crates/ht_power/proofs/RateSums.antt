-- The letters that the ends of walks bring in a common period, word by word.
use Rattle.std.proofs.Common.{◌≡◌, ℕ, ◌+◌, ◌*◌, ◌/◌, ◌≤◌, ◌<◌, ◌⊎◌, inl, inr, List, [], ◌∷◌, length, take, drop, take-append-drop, None, Some, slice_get, refl, sym, ap, ◌∙◌, subst, arith, Contains}
use Rattle.std.specs.Int.{◌∣◌}
use Rattle.std.specs.declared.cmp.Ordering.TheVariants.{Less}
use Rattle.std.proofs.Math.Nat.{div-mul_cancel, mul-div_cancel}
use Rattle.std.proofs.lemmas.List.{drop_all}
use Rattle.std.proofs.lemmas.List.Elements.{All-contains}
use Rattle.std.proofs.lemmas.List.Sums.{sum_by-cons}
use Rattle.ht_word.specs.Words.{IsAscending, word_cmp}
use Rattle.ht_word.specs.declared.word.Word.{Word}
use Rattle.ht_word.proofs.ListLaws.{Contains-nil, Contains-here, Contains-there, Contains-cons_cases, AllPairs-cons, AllPairs-head, AllPairs-nil, AllPairs-right, AllPairs-tail}
use Rattle.ht_word.proofs.WordLaws.{All-from_contains}
use Rattle.ht_num.specs.Numbers.{IsWide}
use Rattle.ht_pair.specs.Parts.{IsSelected}
use Rattle.ht_pair.specs.Rates.{IsPeriod, IsRateSum}
use Rattle.ht_pair.proofs.KindLaws.{attractor_no_repeller}
use Rattle.ht_quasi.proofs.RoundLaws.{something_at}
use Rattle.ht_quasi.proofs.StepLaws.{listed_at}
use Rattle.ht_types.specs.declared.direction.Direction.{Direction}
use Rattle.ht_types.specs.declared.direction.Direction.TheVariants.{Ahead, Behind}
use Rattle.ht_types.specs.TypedElements.{TypedValue}
use Rattle.ht_power.specs.RatesTold.{HasPeriod, IsEndIn, IsRateIn, TellsEnd}
use Rattle.ht_power.proofs.PeriodLaws.{Typed, from_among, period_or_not, period_positive, words_from}

-- ---- words that are selected

-- u comes before v
abbrev Before : Word → Word → Type 0
Before u v = word_cmp u v ≡ Less

-- the first word is selected, if it has the property
selected_more : {P : Word → Type 0} (x : Word) (X W : List Word) → IsAscending (x ∷ X) → P x → IsSelected P X W → IsSelected P (x ∷ X) (x ∷ W)
selected_more {P} x X W ascending h rest = record {
  ascending = AllPairs-cons Before x W (All-from_contains (Before x) W (λ y c. All-contains (Before x) X y (AllPairs-head Before x X ascending) ((rest.same y).0 c).0)) rest.ascending;
  same = λ y. (
    (λ c. elim (Contains-cons_cases x W y c) [
      | inl e ↦ (subst (Contains (x ∷ X)) e (Contains-here x X), subst P e h)
      | inr d ↦ (Contains-there x X y ((rest.same y).0 d).0, ((rest.same y).0 d).1)
    ]),
    (λ g. elim (Contains-cons_cases x X y g.0) [
      | inl e ↦ subst (Contains (x ∷ W)) e (Contains-here x W)
      | inr d ↦ Contains-there x W y ((rest.same y).1 (d, g.1))
    ]),
  );
}

-- and else not
selected_same : {P : Word → Type 0} (x : Word) (X W : List Word) → ¬ P x → IsSelected P X W → IsSelected P (x ∷ X) W
selected_same {P} x X W none rest = record {
  ascending = rest.ascending;
  same = λ y. (
    (λ c. (Contains-there x X y ((rest.same y).0 c).0, ((rest.same y).0 c).1)),
    (λ g. elim (Contains-cons_cases x X y g.0) [
      | inl e ↦ absurd (none (subst P (sym e) g.1))
      | inr d ↦ (rest.same y).1 (d, g.1)
    ]),
  );
}

-- ---- sums, word by word

-- no words have no rates
pub rate_none : (Kind : Word → ℕ → List ℕ → Type 0) (M : ℕ) → IsRateSum Kind [] M 0
rate_none Kind M = record {
  words = [];
  rates = [];
  selected = record { ascending = AllPairs-nil Before; same = λ x. ((λ c. absurd (Contains-nil x c)), (λ h. absurd (Contains-nil x h.0))) };
  rated = tt;
  total_is = refl;
}

-- one more word of the kind
pub rate_more : (Kind : Word → ℕ → List ℕ → Type 0) (x : Word) (W : List Word) (M m rate rest : ℕ) (by : List ℕ) → IsAscending (x ∷ W) → Kind x m by
    → rate ≡ length by * M / m → IsRateSum Kind W M rest → IsRateSum Kind (x ∷ W) M (rate + rest)
rate_more Kind x W M m rate rest by ascending h is sums = record {
  words = x ∷ sums.words;
  rates = rate ∷ sums.rates;
  selected = selected_more {P = λ y. (k : ℕ) × (z : List ℕ) × Kind y k z} x W sums.words ascending (m, by, h) sums.selected;
  rated = ((m, by, h, is), sums.rated);
  total_is = ap (λ n. rate + n) sums.total_is ∙ sym (sum_by-cons (λ (n : ℕ). n) rate sums.rates);
}

-- one more word that is of another
pub rate_same : (Kind : Word → ℕ → List ℕ → Type 0) (x : Word) (W : List Word) (M rest : ℕ) → ((m : ℕ) (by : List ℕ) → ¬ Kind x m by)
    → IsRateSum Kind W M rest → IsRateSum Kind (x ∷ W) M rest
rate_same Kind x W M rest none sums = record {
  words = sums.words;
  rates = sums.rates;
  selected = selected_same {P = λ y. (k : ℕ) × (z : List ℕ) × Kind y k z} x W sums.words (λ (m, by, h). none m by h) sums.selected;
  rated = sums.rated;
  total_is = sums.total_is;
}

-- the rate, without the product by the common period
pub rate_is : (letters M m : ℕ) → 1 ≤ m → m ∣ M → letters * (M / m) ≡ letters * M / m
rate_is letters M m low d =
    let whole : M / m * m ≡ M = div-mul_cancel m d in
    let product : letters * (M / m) * m ≡ letters * M = omega arith ∙ ap (λ n. letters * n) whole in
    sym (mul-div_cancel (letters * (M / m)) low) ∙ ap (λ n. n / m) product

-- ---- of a typed element

-- an end of walks in a direction has a period
pub end_period : (direction : Direction) (t : TypedValue) (x : Word) (m : ℕ) (by : List ℕ) → IsEndIn direction t x m by → HasPeriod t x m
end_period Ahead t x m by h = (by, inl h)
end_period Behind t x m by h = (by, inr h)

-- of each word it is known whether it is an end
pub end_or_not : (direction : Direction) (t : TypedValue) → Typed t → (x : Word) → Contains t.quasi.basis.words x
    → ((m : ℕ) × (by : List ℕ) × IsEndIn direction t x m by) ⊎ ((m : ℕ) (by : List ℕ) → ¬ IsEndIn direction t x m by)
end_or_not Ahead t typed x c = elim (period_or_not t typed x c) [
  | inl end ↦ elim end.1.1 [
    | inl a ↦ inl (end.0, end.1.0, a)
    | inr r ↦ inr (λ k z a. attractor_no_repeller t.element.shape t.element.rows typed.canonical.pair x k end.0 z end.1.0 a r)
  ]
  | inr none ↦ inr (λ m by a. none m (by, inl a))
]
end_or_not Behind t typed x c = elim (period_or_not t typed x c) [
  | inl end ↦ elim end.1.1 [
    | inl a ↦ inr (λ k z r. attractor_no_repeller t.element.shape t.element.rows typed.canonical.pair x end.0 k end.1.0 z a r)
    | inr r ↦ inl (end.0, end.1.0, r)
  ]
  | inr none ↦ inr (λ m by r. none m (by, inr r))
]

-- the ends of a list have rates
pub rates_exist : (direction : Direction) (t : TypedValue) → Typed t → (M : ℕ) (W : List Word) → IsAscending W
    → ((x : Word) → Contains W x → Contains t.quasi.basis.words x) → (total : ℕ) × IsRateSum (IsEndIn direction t) W M total
rates_exist direction t typed M [] ascending among = (0, rate_none (IsEndIn direction t) M)
rates_exist direction t typed M (x ∷ W) ascending among =
    let rest = rates_exist direction t typed M W (AllPairs-tail Before x W ascending) (λ y c. among y (Contains-there x W y c)) in
    elim (end_or_not direction t typed x (among x (Contains-here x W))) [
      | inl end ↦ (length end.1 * M / end.0 + rest.0, rate_more (IsEndIn direction t) x W M end.0 (length end.1 * M / end.0) rest.0 end.1 ascending end.2 refl rest.1)
      | inr none ↦ (rest.0, rate_same (IsEndIn direction t) x W M rest.0 none rest.1)
    ]

-- so have those of the basis
pub rate_exists : (direction : Direction) (t : TypedValue) → Typed t → (M : ℕ) → (total : ℕ) × IsRateIn direction t M total
rate_exists direction t typed M = rates_exist direction t typed M t.quasi.basis.words typed.quasinormal.least.ascending (λ x c. c)

-- ---- from place to place

-- the total and the rates from a place on are the rates of all words
abbrev pub Counts : Direction → TypedValue → ℕ → ℕ → ℕ → Type 0
Counts direction t M place total = (rest : ℕ) → IsRateSum (IsEndIn direction t) (drop place t.quasi.basis.words) M rest → IsRateIn direction t M (total + rest)

-- the words from a place on are in order
from_ascending : (X : List Word) (place : ℕ) (x : Word) → IsAscending X → slice_get X place ≡ Some x → IsAscending (x ∷ drop (place + 1) X)
from_ascending X place x ascending here = subst IsAscending (words_from X place x here) (AllPairs-right Before (take place X) (drop place X) (subst IsAscending (sym (take-append-drop place X)) ascending))

-- so it is from the next place on, with the rate of the word at this place, where it is an end
pub counts_more : (direction : Direction) (t : TypedValue) → Typed t → (M place total m letters rate : ℕ)
    → ((k : ℕ) → IsPeriod t.element.shape t.element.rows t.quasi.basis.words k → k ∣ M) → place < length t.quasi.basis.words
    → TellsEnd direction t place (Some (m, letters)) → rate ≡ letters * (M / m)
    → Counts direction t M place total → Counts direction t M (place + 1) (total + rate)
counts_more direction t typed M place total m letters rate common inside end is before rest sums =
    let X = t.quasi.basis.words in
    let x = something_at X place inside in
    let at = end x.0 x.1 in
    let period = end_period direction t x.0 m at.0 at.1 in
    let divides = common m (x.0, period.0, listed_at X place x.0 x.1, period.1) in
    let whole : rate ≡ length at.0 * M / m = is ∙ ap (λ n. n * (M / m)) at.2 ∙ rate_is (length at.0) M m (period_positive t x.0 m period) divides in
    let more = rate_more (IsEndIn direction t) x.0 (drop (place + 1) X) M m rate rest at.0 (from_ascending X place x.0 typed.quasinormal.least.ascending x.1) at.1 whole sums in
    let same : total + (rate + rest) ≡ total + rate + rest = omega arith in
    subst (IsRateIn direction t M) same (before (rate + rest) (subst (λ (W : List Word). IsRateSum (IsEndIn direction t) W M (rate + rest)) (sym (words_from X place x.0 x.1)) more))

-- and where it is none, without
pub counts_same : (direction : Direction) (t : TypedValue) (M place total : ℕ) → place < length t.quasi.basis.words → TellsEnd direction t place None
    → Counts direction t M place total → Counts direction t M (place + 1) total
counts_same direction t M place total inside none before rest sums =
    let X = t.quasi.basis.words in
    let x = something_at X place inside in
    before rest (subst (λ (W : List Word). IsRateSum (IsEndIn direction t) W M rest) (sym (words_from X place x.0 x.1)) (rate_same (IsEndIn direction t) x.0 (drop (place + 1) X) M rest (none x.0 x.1) sums))

-- once a total is wide, so is that of all words
pub counts_wide : (direction : Direction) (t : TypedValue) → Typed t → (M place total : ℕ) → place < length t.quasi.basis.words → IsWide total
    → Counts direction t M (place + 1) total → (whole : ℕ) × IsRateIn direction t M whole × IsWide whole
counts_wide direction t typed M place total inside wide before =
    let X = t.quasi.basis.words in
    let x = something_at X place inside in
    let ascending = AllPairs-tail Before x.0 (drop (place + 1) X) (from_ascending X place x.0 typed.quasinormal.least.ascending x.1) in
    let rest = rates_exist direction t typed M (drop (place + 1) X) ascending (from_among X (place + 1)) in
    (total + rest.0, before rest.0 rest.1, omega (arith, wide))

-- behind the last word the total is the whole
pub counts_all : (direction : Direction) (t : TypedValue) (M place total : ℕ) → length t.quasi.basis.words ≤ place → Counts direction t M place total
    → IsRateIn direction t M total
counts_all direction t M place total far before =
    let same : total + 0 ≡ total = omega arith in
    subst (IsRateIn direction t M) same (before 0 (subst (λ (W : List Word). IsRateSum (IsEndIn direction t) W M 0) (sym (drop_all place t.quasi.basis.words far)) (rate_none (IsEndIn direction t) M)))
