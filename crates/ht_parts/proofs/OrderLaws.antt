-- The order of an element is the least common multiple of the lengths of its cycles, where all words of a semi-normal basis are cycle words; else no
-- power is the identity.
use Rattle.std.proofs.Common.{◌≡◌, ℕ, ◌+◌, ◌*◌, ◌/◌, ◌%◌, ◌⊎◌, inl, inr, List, [], ◌∷◌, ◌++◌, take, Some, slice_get, sym, ap, ◌∙◌, subst, arith, All, Contains, ℤ, pos, ◌+ℤ◌}
use Rattle.std.proofs.lemmas.List.{take_more}
use Rattle.std.proofs.lemmas.Option.{slice_get_within, get_or_from_slice_get}
use Rattle.std.proofs.lemmas.List.Elements.{All-contains, All-nil, Contains-append_cases, Contains-append_left, Contains-append_right}
use Rattle.std.specs.Int.{◌∣◌}
use Rattle.ht_word.specs.Words.{◌·◌, root_word, IsLetter, IsWordOf}
use Rattle.ht_word.specs.declared.shape.Shape.{Shape}
use Rattle.ht_word.specs.declared.word.Word.{Word}
use Rattle.ht_word.proofs.ListLaws.{Contains-nil, Contains-here, Contains-there, Contains-cons_cases}
use Rattle.ht_word.proofs.WordLaws.{after_cancel_right, under_refl, word_after, word_rest, ones, All-from_contains}
use Rattle.ht_num.specs.Numbers.{IsLcm, IsWide}
use Rattle.ht_num.proofs.NumberLaws.{once_least, least_multiple_none, least_multiple_same, lcm_joins, lcm_exists, wide_multiple}
use Rattle.ht_pair.specs.Bases.{longest, IsBasis}
use Rattle.ht_pair.specs.Kinds.{IsCycle, IsCycleWord}
use Rattle.ht_pair.specs.Orders.{IsOrder, HasInfiniteOrder, IsPeriodicOrder}
use Rattle.ht_pair.specs.Pairs.{IsPair}
use Rattle.ht_pair.specs.SemiNormal.{IsSemiNormal}
use Rattle.ht_pair.specs.Steps.{Carries}
use Rattle.ht_pair.specs.declared.row.Row.{Row}
use Rattle.ht_pair.proofs.BasisLaws.{basis_holds, basis_word}
use Rattle.ht_pair.proofs.CarriesLaws.{carries_single, carries_from_steps, carries_extends}
use Rattle.ht_pair.proofs.PrefixMapLaws.{long_word, length-long}
use Rattle.ht_pair.proofs.StepsLaws.{steps_map}
use Rattle.ht_pair.proofs.IdentityLaws.{fixed_word}
use Rattle.ht_types.proofs.PeriodicLaws.{periodic_word, length_divides, multiple_carries}

-- ---- powers that carry words to themselves

-- a power that carries each word of a basis to itself carries every word to itself: with letters behind it, the word is under one of the basis
pub carried_over_basis : (shape : Shape) (p : List Row) → IsPair shape p → (X : List Word) → IsBasis shape X → (k : ℤ) → ((x : Word) → Contains X x → Carries shape p k x x) → (u : Word) → IsWordOf shape u → Carries shape p k u u
carried_over_basis shape p pair X basis k each u h = record {
  word = h;
  carried = λ z w hz steps.
      let long = long_word shape (u · z) (longest X) (word_after shape u z h hz) in
      let y = ones (longest X) in
      let s = basis_holds shape X basis ((u · z) · y) long (omega (arith, length-long (u · z) (longest X))) in
      let hr = word_rest shape s.above s.under.rest (subst (IsWordOf shape) s.under.is long) in
      let back : Carries shape p k ((u · z) · y) ((u · z) · y) = subst (λ t. Carries shape p k t t) (sym s.under.is) (carries_extends shape p k s.above s.above s.under.rest hr (each s.above s.listed)) in
      let there : Carries shape p k ((u · z) · y) (w · y) = carries_from_steps shape p pair k ((u · z) · y) (w · y) long ((steps_map shape p pair k).ahead.extends (u · z) w y steps) in
      after_cancel_right w (u · z) y (carries_single shape p pair k ((u · z) · y) (w · y) ((u · z) · y) there back);
}

-- ---- orders

-- where all words are cycle words, the least common multiple of their lengths is the order
pub order_from_lengths : (shape : Shape) (p : List Row) → IsPair shape p → (X : List Word) → IsBasis shape X → All (IsCycleWord shape p) X → (k : ℕ) → IsPeriodicOrder shape p X k → IsOrder shape p k
order_from_lengths shape p pair X basis cycles k least = record {
  positive = least.positive;
  holds = λ root low high. carried_over_basis shape p pair X basis (pos k) carries (root_word root) (record { root_low = low; root_high = high; letters = All-nil (IsLetter shape) });
  least = λ j low less fixes. least.least j low less (λ m (x, c, cycle). length_divides shape p pair x m j cycle (fixed_word shape p j fixes x (basis_word shape X basis x c)));
}
  where
    carries : (x : Word) → Contains X x → Carries shape p (pos k) x x
    carries x c = let cycle = All-contains (IsCycleWord shape p) X x cycles c in multiple_carries shape p pair x cycle.0 k cycle.1 (least.holds cycle.0 (x, c, cycle.1))

-- where some word is none, no power is the identity
pub order_infinite : (shape : Shape) (p : List Row) → IsPair shape p → (X : List Word) → IsSemiNormal shape p X → ¬ All (IsCycleWord shape p) X → HasInfiniteOrder shape p
order_infinite shape p pair X semi other k low fixes =
    other (All-from_contains (IsCycleWord shape p) X (λ x c. periodic_word shape p pair X semi k x x low c (under_refl x) (fixed_word shape p k fixes x (basis_word shape X semi.basis x c))))

-- ---- least common multiples, word by word

-- a length of a cycle in W
abbrev pub IsLength : Shape → List Row → List Word → ℕ → Type 0
IsLength shape p W m = (x : Word) × Contains W x × IsCycle shape p x m

-- V has the words of W, and one more
pub record HasOneMore (W : List Word) (x : Word) (V : List Word) : Type 0 where
  pub from : (y : Word) → Contains V y → Contains W y ⊎ (y ≡ x)
  pub old : (y : Word) → Contains W y → Contains V y
  pub new : Contains V x

-- no words
pub periodic_none : (shape : Shape) (p : List Row) → IsPeriodicOrder shape p [] 1
periodic_none shape p = least_multiple_none {P = IsLength shape p []} (λ m (x, c, cycle). Contains-nil x c)

-- one more word that is no cycle word
pub periodic_same : (shape : Shape) (p : List Row) (W V : List Word) (x : Word) (k : ℕ) → HasOneMore W x V → ¬ IsCycleWord shape p x → IsPeriodicOrder shape p W k → IsPeriodicOrder shape p V k
periodic_same shape p W V x k more other least = least_multiple_same {P = IsLength shape p W} {Q = IsLength shape p V} (λ m. (
  (λ (y, c, cycle). (y, more.old y c, cycle)),
  (λ (y, c, cycle). elim (more.from y c) [ inl d ↦ (y, d, cycle) | inr e ↦ absurd (other (m, subst (λ t. IsCycle shape p t m) e cycle)) ]),
)) least

-- one more cycle word
pub periodic_more : (shape : Shape) (p : List Row) (W V : List Word) (x : Word) (m k j : ℕ) → HasOneMore W x V → IsCycle shape p x m → IsPeriodicOrder shape p W k → IsLcm k m j → IsPeriodicOrder shape p V j
periodic_more shape p W V x m k j more cycle least joined = least_multiple_same {P = λ i. IsLength shape p W i ⊎ (i ≡ m)} {Q = IsLength shape p V} (λ i. (
  (λ either. elim either [ inl l ↦ (l.0, more.old l.0 l.1, l.2) | inr e ↦ (x, more.new, subst (IsCycle shape p x) (sym e) cycle) ]),
  (λ (y, c, other). elim (more.from y c) [ inl d ↦ inl (y, d, other) | inr e ↦ inr (once_least i m (subst (λ t. IsCycle shape p t i) e other) cycle) ]),
)) (lcm_joins {P = IsLength shape p W} least joined)

-- the words of a list have a least common multiple of lengths, where it is known of each whether it is a cycle word
pub periodic_exists : (shape : Shape) (p : List Row) (W : List Word) → ((x : Word) → Contains W x → IsCycleWord shape p x ⊎ ¬ IsCycleWord shape p x) → (k : ℕ) × IsPeriodicOrder shape p W k
periodic_exists shape p [] told = (1, periodic_none shape p)
periodic_exists shape p (x ∷ W) told =
    let rest = periodic_exists shape p W (λ y c. told y (Contains-there x W y c)) in
    elim (told x (Contains-here x W)) [
      | inl cycle ↦ let joined = lcm_exists rest.0 cycle.0 rest.1.positive cycle.1.positive in (joined.0, periodic_more shape p W (x ∷ W) x cycle.0 rest.0 joined.0 (more_in_front x W) cycle.1 rest.1 joined.1)
      | inr other ↦ (rest.0, periodic_same shape p W (x ∷ W) x rest.0 (more_in_front x W) other rest.1)
    ]
  where
    more_in_front : (x : Word) (W : List Word) → HasOneMore W x (x ∷ W)
    more_in_front x W = record {
      from = λ y c. elim (Contains-cons_cases x W y c) [ inl e ↦ inr (sym e) | inr d ↦ inl d ];
      old = λ y c. Contains-there x W y c;
      new = Contains-here x W;
    }

-- the words before a place, and the word at it
pub more_at : (X : List Word) (place : ℕ) (x : Word) → slice_get X place ≡ Some x → HasOneMore (take place X) x (take (place + 1) X)
more_at X place x here =
    let front : take (place + 1) X ≡ take place X ++ x ∷ [] = take_more X place x (slice_get_within X place x here) ∙ ap (λ t. take place X ++ t ∷ []) (get_or_from_slice_get X place x x here) in
    record {
      from = λ y c. elim (Contains-append_cases (take place X) (x ∷ []) y (subst (λ (W : List Word). Contains W y) front c)) [
        | inl d ↦ inl d
        | inr d ↦ elim (Contains-cons_cases x [] y d) [ inl e ↦ inr (sym e) | inr n ↦ absurd (Contains-nil y n) ]
      ];
      old = λ y c. subst (λ (W : List Word). Contains W y) (sym front) (Contains-append_left (take place X) (x ∷ []) y c);
      new = subst (λ (W : List Word). Contains W x) (sym front) (Contains-append_right (take place X) (x ∷ []) x (Contains-here x []));
    }

-- where the least common multiple of some lengths is wide, so is that of all
pub periodic_wide : (shape : Shape) (p : List Row) (W X : List Word) (k : ℕ) → ((x : Word) → Contains X x → IsCycleWord shape p x ⊎ ¬ IsCycleWord shape p x) → ((x : Word) → Contains W x → Contains X x) → IsPeriodicOrder shape p W k → IsWide k
    → (j : ℕ) × IsPeriodicOrder shape p X j × IsWide j
periodic_wide shape p W X k told inside least wide =
    let whole = periodic_exists shape p X told in
    (whole.0, whole.1, wide_multiple {P = IsLength shape p W} {Q = IsLength shape p X} least whole.1 (λ m (x, c, cycle). (x, inside x c, cycle)) wide)
