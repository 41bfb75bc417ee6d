-- What the power rule answers of two elements of finite order.
use Rattle.std.proofs.Common.{◌≡◌, ◌≤◌, ◌<◌, ◌^◌, ℕ, min, inl, inr, List, [], ◌∷◌, Option, Some, None, MatchOption, Result, Ok, Err, subst, arith, ◌↔◌, Contains, AllPairs}
use Rattle.std.specs.Int.{◌∣◌, IsGcd}
use Rattle.std.proofs.lemmas.Nat.Gcd.{dvd_trans}
use Rattle.ht_word.specs.declared.shape.Shape.{Shape}
use Rattle.ht_word.specs.declared.word.Word.{Word}
use Rattle.ht_word.proofs.WordLaws.{All-from_contains}
use Rattle.ht_num.specs.Numbers.{IsWide}
use Rattle.ht_pair.specs.FiniteTrials.{IsTried, FiniteTrials}
use Rattle.ht_pair.specs.Kinds.{IsCycle}
use Rattle.ht_pair.specs.Orders.{IsOrder, IsPeriodicOrder}
use Rattle.ht_pair.specs.Parts.{IsInfinitePart}
use Rattle.ht_pair.specs.PowerRule.{BothFinite, Answers}
use Rattle.ht_pair.specs.PowerTrials.{PowerAnswer, TooWide}
use Rattle.ht_pair.specs.declared.decider.Which.TheVariants.{First, Second}
use Rattle.ht_pair.specs.declared.row.Row.{Row}
use Rattle.ht_pair.specs.declared.verdict.PowerVerdict.{PowerVerdict}
use Rattle.ht_types.specs.TypedElements.{TypedValue, IsTyped}
use Rattle.ht_laws.proofs.FiniteOrderLaws.{order_where_empty}
use Rattle.ht_power.proofs.WideNumbers.{both_narrow, some_wide}
use Rattle.ht_power.specs.declared.fault.PowerFault.{PowerFault}
use Rattle.ht_power.specs.declared.fault.PowerFault.TheVariants as fault
use Rattle.ht_power.specs.CyclePowers.{IsFinite}
use Rattle.ht_power.specs.Cycles.{IsLongest}
use Rattle.ht_power.specs.FiniteOrders.{AreTrialDivisors}
use Rattle.ht_power.specs.Told.{Tells, AnswersOf}

-- an answer of one kind is one of another
pub tells_weaker : (P Q : PowerAnswer → Type 0) (result : Result PowerVerdict PowerFault) → ((answer : PowerAnswer) → P answer → Q answer) → Tells P result → Tells Q result
tells_weaker P Q (Ok verdict) h told = h _ told
tells_weaker P Q (Err (fault.Budget First)) h told = h _ told
tells_weaker P Q (Err (fault.Budget Second)) h told = h _ told
tells_weaker P Q (Err (fault.Large rows letters)) h told = h _ told
tells_weaker P Q (Err fault.Wide) h told = h _ told
tells_weaker P Q (Err fault.NoMemory) h told = tt

-- the periodic order is wide
abbrev pub HasWideOrder : TypedValue → Type 0
HasWideOrder t = (k : ℕ) × IsPeriodicOrder t.element.shape t.element.rows t.quasi.basis.words k × IsWide k

-- the periodic order is this number, from 1 on
abbrev pub HasPeriodicOrder : TypedValue → ℕ → Type 0
HasPeriodicOrder t k = IsPeriodicOrder t.element.shape t.element.rows t.quasi.basis.words k

order_told : (t : TypedValue) (k : ℕ) → IsTyped t.element t.quasi t.kinds → IsFinite t → HasPeriodicOrder t k → IsOrder t.element.shape t.element.rows k
order_told t k typed none order = (order_where_empty t.element.shape t.element.rows t.quasi.basis.words k typed.canonical.pair typed.quasinormal.least.semi_normal.basis none).0 order

-- both orders
pub both_finite : (f g : TypedValue) (m n : ℕ) → IsTyped f.element f.quasi f.kinds → IsTyped g.element g.quasi g.kinds → g.element.shape ≡ f.element.shape → IsFinite f → IsFinite g → HasPeriodicOrder f m → HasPeriodicOrder g n
    → BothFinite f.element.shape f.element.rows g.element.rows f.quasi.basis.words g.quasi.basis.words m n
both_finite f g m n first second same none other order order_too = record {
  first_empty = none;
  second_empty = subst (λ (s : Shape). IsInfinitePart s g.element.rows g.quasi.basis.words []) same other;
  first_order = order_told f m first none order;
  second_order = subst (λ (s : Shape). IsOrder s g.element.rows n) same (order_told g n second other order_too);
}

-- what is told of the order
abbrev pub TellsOrder : TypedValue → Option ℕ → Type 0
TellsOrder t told = MatchOption told (HasWideOrder t) (λ k. HasPeriodicOrder t k × (k < 2 ^ 127))

-- there is one
order_of : (t : TypedValue) (told : Option ℕ) → TellsOrder t told → (k : ℕ) × HasPeriodicOrder t k
order_of t (Some k) h = (k, h.0)
order_of t None h = (h.0, h.1)

-- where one isn't told, that is the answer
module _ (f g : TypedValue) (typed : IsTyped f.element f.quasi f.kinds) (typed_too : IsTyped g.element g.quasi g.kinds) (same : g.element.shape ≡ f.element.shape) (none : IsFinite f) (none_too : IsFinite g) where
  pub first_order_wide : (first second : Option ℕ) → first ≡ None → TellsOrder f first → TellsOrder g second → AnswersOf f g TooWide
  first_order_wide first second is h other =
      let wide = subst (TellsOrder f) is h in
      let l = order_of g second other in
      Answers.wide_order (both_finite f g wide.0 l.0 typed typed_too same none none_too wide.1 l.1) (some_wide [] (l.0 ∷ []) wide.0 wide.2)

  pub second_order_wide : (first second : Option ℕ) → second ≡ None → TellsOrder f first → TellsOrder g second → AnswersOf f g TooWide
  second_order_wide first second is other h =
      let wide = subst (TellsOrder g) is h in
      let k = order_of f first other in
      Answers.wide_order (both_finite f g k.0 wide.0 typed typed_too same none none_too k.1 wide.1) (some_wide (k.0 ∷ []) [] wide.0 wide.2)

-- ---- the divisors that are tried

-- some cycle is as long as a number from 2 to the longest
cycle_to : (shape : Shape) (p : List Row) (X : List Word) (longest d : ℕ) → IsLongest shape p X longest → 2 ≤ d → d ≤ longest → (x : Word) × (m : ℕ) × Contains X x × IsCycle shape p x m × (d ≤ m)
cycle_to shape p X longest d h low most = elim h.reached [ inl none ↦ absurd (omega arith) | inr (x, c, cycle) ↦ (x, longest, c, cycle, most) ]

-- a divisor of both orders from 2 to the shorter of the longest cycles is tried, and no other
pub tried_told : (shape : Shape) (a b : List Row) (X Y : List Word) (m n common first second d : ℕ) → IsGcd m n common → IsLongest shape a X first → IsLongest shape b Y second
    → ((2 ≤ d) × (d ≤ min first second) × (d ∣ common)) ↔ IsTried shape a b X Y m n d
tried_told shape a b X Y m n common first second d is longest longest_too = (to, from)
  where
    to : (2 ≤ d) × (d ≤ min first second) × (d ∣ common) → IsTried shape a b X Y m n d
    to (low, most, divides) = record {
      not_one = low;
      first = dvd_trans d divides is.0;
      second = dvd_trans d divides is.1;
      some_cycle = cycle_to shape a X first d longest low (omega (arith, most));
      some_other = cycle_to shape b Y second d longest_too low (omega (arith, most));
    }

    from : IsTried shape a b X Y m n d → (2 ≤ d) × (d ≤ min first second) × (d ∣ common)
    from tried =
        let (x, k, c, cycle, most) = tried.some_cycle in
        let (y, l, e, other, most_too) = tried.some_other in
        let below = longest.most x k c cycle in
        let below_too = longest_too.most y l e other in
        (tried.not_one, omega (arith, below, below_too, most, most_too), is.2 d tried.first tried.second)

-- they are divisors of both
pub tried_divide : (m n common most : ℕ) (ds : List ℕ) → IsGcd m n common → AllPairs (λ (c : ℕ) (d : ℕ). c < d) ds → ((d : ℕ) → Contains ds d ↔ ((2 ≤ d) × (d ≤ most) × (d ∣ common))) → AreTrialDivisors m n ds
tried_divide m n common most ds is ascending each = record {
  ascending = ascending;
  each = All-from_contains (λ d. (2 ≤ d) × (d ∣ m) × (d ∣ n)) ds (λ d c. let h = (each d).0 c in (h.0, dvd_trans d h.2 is.0, dvd_trans d h.2 is.1));
}

-- what their trials answer is the answer
pub finite_answer : (f g : TypedValue) (m n common first second : ℕ) (ds : List ℕ) → g.element.shape ≡ f.element.shape → BothFinite f.element.shape f.element.rows g.element.rows f.quasi.basis.words g.quasi.basis.words m n → m < 2 ^ 127 → n < 2 ^ 127 → IsGcd m n common
    → IsLongest f.element.shape f.element.rows f.quasi.basis.words first → IsLongest g.element.shape g.element.rows g.quasi.basis.words second
    → AllPairs (λ (c : ℕ) (d : ℕ). c < d) ds → ((d : ℕ) → Contains ds d ↔ ((2 ≤ d) × (d ≤ min first second) × (d ∣ common)))
    → (answer : PowerAnswer) → FiniteTrials f.element.shape f.element.rows g.element.rows m n ds answer → AnswersOf f g answer
finite_answer f g m n common first second ds same both narrow narrow_too is longest longest_too ascending each answer trials =
    Answers.finite both (both_narrow m n narrow narrow_too) ascending (λ d. let told = tried_told f.element.shape f.element.rows g.element.rows f.quasi.basis.words g.quasi.basis.words m n common first second d is longest
    (subst (λ (s : Shape). IsLongest s g.element.rows g.quasi.basis.words second) same longest_too) in ((λ c. told.0 ((each d).0 c)), (λ t. (each d).1 (told.1 t)))) trials

-- told of the divisors as they are at hand
pub finite_told : (f g : TypedValue) (m n : ℕ) (given ds : List ℕ) (result : Result PowerVerdict PowerFault) → given ≡ ds → ((answer : PowerAnswer) → FiniteTrials f.element.shape f.element.rows g.element.rows m n ds answer → AnswersOf f g answer)
    → Tells (FiniteTrials f.element.shape f.element.rows g.element.rows m n given) result → Tells (AnswersOf f g) result
finite_told f g m n given ds result same h told =
    tells_weaker (FiniteTrials f.element.shape f.element.rows g.element.rows m n given) (AnswersOf f g) result (λ answer trials. h answer (subst (λ (ks : List ℕ). FiniteTrials f.element.shape f.element.rows g.element.rows m n ks answer) same trials)) told
