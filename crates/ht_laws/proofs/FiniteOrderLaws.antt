-- An element whose infinite part is empty has an order: that of its periodic part.
use Rattle.std.proofs.Common.{◌≡◌, ℕ, zero, suc, ◌≤◌, ◌*◌, ◌/◌, ◌%◌, inl, inr, List, [], length, sym, subst, arith, ◌↔◌, Contains, pos, ◌+ℤ◌}
use Rattle.std.specs.Prelude.{◌-◌}
use Rattle.std.specs.Int.{◌∣◌}
use Rattle.std.proofs.lemmas.Bool.{cases_lt}
use Rattle.std.proofs.lemmas.Int.{ints}
use Rattle.std.proofs.lemmas.List.Elements.{All-nil}
use Rattle.std.proofs.Math.Nat.{dvd-mul_right, dvd-mul_left_of_dvd}
use Rattle.std.specs.declared.cmp.Ordering.TheVariants.{Less}
use Rattle.ht_word.specs.Words.{◌·◌, root_word, word_cmp, IsLetter, IsWordOf}
use Rattle.ht_word.specs.declared.shape.Shape.{Shape}
use Rattle.ht_word.specs.declared.word.Word.{Word}
use Rattle.ht_word.proofs.Deciding.{same_word_or_not}
use Rattle.ht_word.proofs.ListLaws.{Contains-nil, AllPairs-nil}
use Rattle.ht_word.proofs.WordLaws.{after_cancel_right, word_after, word_rest, ones}
use Rattle.ht_pair.specs.Bases.{IsBasis, longest}
use Rattle.ht_pair.specs.Kinds.{IsCycle}
use Rattle.ht_pair.specs.Orders.{FixesRoots, IsOrder, IsPeriodicOrder}
use Rattle.ht_pair.specs.Pairs.{IsPair}
use Rattle.ht_pair.specs.Parts.{IsInfinitePart}
use Rattle.ht_pair.specs.SemiNormal.{IsSemiNormal}
use Rattle.ht_pair.specs.Steps.{Carries}
use Rattle.ht_pair.specs.declared.row.Row.{Row}
use Rattle.ht_pair.proofs.BasisLaws.{basis_holds, basis_word}
use Rattle.ht_pair.proofs.CarriesLaws.{carries_single, carries_from_steps, carries_extends, carries_rest}
use Rattle.ht_pair.proofs.PrefixMapLaws.{long_word, length-long}
use Rattle.ht_pair.proofs.StepsLaws.{steps_map}
use Rattle.ht_pair.proofs.IdentityLaws.{fixed_word}
use Rattle.ht_types.proofs.PeriodicLaws.{IsOnCycle, returns_cycle, cycle_around, length_divides, multiple_carries}
use Rattle.ht_types.proofs.Repeats.{repeats}
use Rattle.ht_num.proofs.NumberLaws.{least_same}

-- ---- lengths of cycles

-- a cycle in a semi-normal basis has no more words than the basis
short_cycle : (shape : Shape) (p : List Row) → IsPair shape p → (X : List Word) → IsSemiNormal shape p X → (x : Word) (m : ℕ) → Contains X x → IsCycle shape p x m → m ≤ length X
short_cycle shape p pair X semi x m c cycle =
    let at : (i : ℕ) → IsOnCycle shape p X x m (pos i) = λ i. cycle_around shape p pair X semi (pos i) x m c cycle in
    let r = repeats X (λ i. (at i).word) (λ i l. (at i).listed) in
    let sum : pos r.first +ℤ pos (r.second - r.first) ≡ pos r.second = omega (arith, ints, r.less) in
    let round : Carries shape p (pos (r.second - r.first)) (at r.first).word (at r.first).word = carries_rest shape p pair (pos r.first) (pos (r.second - r.first)) (pos r.second) sum x (at r.first).word (at r.first).word (at r.first).carries (subst (Carries shape p (pos r.second) x) (sym r.same) (at r.second).carries) in
    elim (cases_lt (r.second - r.first) m) [
      | inl less ↦ absurd ((at r.first).cycle.least (r.second - r.first) (omega (arith, r.less)) less round)
      | inr more ↦ omega (arith, more, r.within)
    ]

-- the product of the numbers from 1 to n
product_to : ℕ → ℕ
product_to zero = 1
product_to (suc n) = suc n * product_to n

product_positive : (n : ℕ) → 1 ≤ product_to n
unfolding product_to
product_positive zero = omega arith
product_positive (suc n) = more n (product_to n) (product_positive n)
  where
    more : (n k : ℕ) → 1 ≤ k → 1 ≤ suc n * k
    more n k l = omega (arith, l)

-- each of these numbers divides it
divides_product : (n m : ℕ) → 1 ≤ m → m ≤ n → m ∣ product_to n
unfolding product_to
divides_product zero m low high = absurd (omega (arith, low, high))
divides_product (suc n) m low high = elim (cases_lt m (suc n)) [
  | inl less ↦ dvd-mul_left_of_dvd m (divides_product n m low (omega (arith, less))) (suc n)
  | inr more ↦ (let same : suc n ≡ m = omega (arith, more, high) in subst (λ k. k ∣ suc n * product_to n) same (dvd-mul_right (suc n) (product_to n)))
]

-- ---- powers that are the identity

-- a power that can't but carry each word of a basis to itself is the identity: where a word goes is decided
pub fixes_over : (shape : Shape) (p : List Row) → IsPair shape p → (X : List Word) → IsBasis shape X → (k : ℕ) → ((x : Word) → Contains X x → ¬ ¬ Carries shape p (pos k) x x) → FixesRoots shape p k
fixes_over shape p pair X basis k each root low high =
    let u = root_word root in
    let h : IsWordOf shape u = record { root_low = low; root_high = high; letters = All-nil (IsLetter shape) } in
    record {
      word = h;
      carried = λ z w hz steps.
          let y = ones (longest X) in
          let a = (u · z) · y in
          let long = long_word shape (u · z) (longest X) (word_after shape u z h hz) in
          let s = basis_holds shape X basis a long (omega (arith, length-long (u · z) (longest X))) in
          let hr = word_rest shape s.above s.under.rest (subst (IsWordOf shape) s.under.is long) in
          let there : Carries shape p (pos k) a (w · y) = carries_from_steps shape p pair (pos k) a (w · y) long ((steps_map shape p pair (pos k)).ahead.extends (u · z) w y steps) in
          elim (same_word_or_not w (u · z)) [
            | inl e ↦ e
            | inr n ↦ absurd (each s.above s.listed (λ c.
                let stays : Carries shape p (pos k) a a = subst (λ t. Carries shape p (pos k) t t) (sym s.under.is) (carries_extends shape p (pos k) s.above s.above s.under.rest hr c) in
                n (after_cancel_right w (u · z) y (carries_single shape p pair (pos k) a (w · y) a there stays))))
          ];
    }

-- where the infinite part is empty, a multiple of all lengths of cycles is such a power
multiple_fixes : (shape : Shape) (p : List Row) → IsPair shape p → (X : List Word) → IsBasis shape X → IsInfinitePart shape p X [] → (k : ℕ) → ((x : Word) (m : ℕ) → Contains X x → IsCycle shape p x m → m ∣ k) → FixesRoots shape p k
multiple_fixes shape p pair X basis none k multiple = fixes_over shape p pair X basis k (λ x c n.
    Contains-nil x ((none.same x).1 (c, (λ (m, cycle). n (multiple_carries shape p pair x m k cycle (multiple x m c cycle))))))

-- the infinite part is empty exactly where some power is the identity
pub finite_where_empty : (shape : Shape) (p : List Row) (X : List Word) → IsPair shape p → IsSemiNormal shape p X → IsInfinitePart shape p X [] ↔ ((k : ℕ) × (1 ≤ k) × FixesRoots shape p k)
finite_where_empty shape p X pair semi = (
  (λ none. (
    product_to (length X),
    product_positive (length X),
    multiple_fixes shape p pair X semi.basis none (product_to (length X)) (λ x m c cycle. divides_product (length X) m cycle.positive (short_cycle shape p pair X semi x m c cycle)),
  )),
  (λ (k, low, fixes). record {
    ascending = AllPairs-nil (λ u v. word_cmp u v ≡ Less);
    same = λ x. (
      (λ c. absurd (Contains-nil x c)),
      (λ (c, infinite). absurd (infinite (returns_cycle shape p pair X semi k x low c (fixed_word shape p k fixes x (basis_word shape X semi.basis x c))))),
    );
  }),
)

-- ---- the order

-- where the infinite part is empty, the periodic order is the order
pub order_where_empty : (shape : Shape) (p : List Row) (X : List Word) (k : ℕ) → IsPair shape p → IsBasis shape X → IsInfinitePart shape p X [] → IsPeriodicOrder shape p X k ↔ IsOrder shape p k
order_where_empty shape p X k pair basis none = (
  (λ h. least_same IsMultiple (FixesRoots shape p) to from k h),
  (λ h. least_same (FixesRoots shape p) IsMultiple from to k h),
)
  where
    IsMultiple : ℕ → Type 0
    IsMultiple j = (m : ℕ) → (x : Word) × Contains X x × IsCycle shape p x m → m ∣ j

    to : (j : ℕ) → IsMultiple j → FixesRoots shape p j
    to j multiple = multiple_fixes shape p pair X basis none j (λ x m c cycle. multiple m (x, c, cycle))

    from : (j : ℕ) → FixesRoots shape p j → IsMultiple j
    from j fixes m (x, c, cycle) = length_divides shape p pair x m j cycle (fixed_word shape p j fixes x (basis_word shape X basis x c))
