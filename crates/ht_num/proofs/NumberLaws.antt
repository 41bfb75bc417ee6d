-- Least numbers, and least common multiples.
use Rattle.std.proofs.Common.{◌≡◌, ◌↔◌, ℕ, zero, suc, ◌*◌, ◌/◌, ◌%◌, ◌≤◌, ◌<◌, ◌⊎◌, inl, inr, refl, sym, ap, subst, ◌∙◌, arith}
use Rattle.std.specs.Int.{◌∣◌, IsGcd}
use Rattle.std.proofs.lemmas.Bool.{cases_lt, cases_eq}
use Rattle.std.proofs.lemmas.Nat.Gcd.{dvd_trans, dvd_of_mod-eq-zero, le_of_dvd, IsGcd-from_zero, IsGcd-from_mod}
use Rattle.std.proofs.Math.Nat.{dvd-mod_iff, mod-lt, div-mul_cancel, mul-dvd-mul_left, dvd_of_mul-dvd-mul_right, dvd-mul_left, dvd-mul_right, mul-le-mul_left, mul_comm, one-le-mul, pos_of_dvd_of_pos, le_refl}
use Rattle.ht_num.specs.Numbers.{IsLeastPositive, IsLeastMultiple, IsLcm, IsWide}

-- there is one least number with a property
pub once_least : {P : ℕ → Type 0} (m k : ℕ) → IsLeastPositive P m → IsLeastPositive P k → m ≡ k
once_least m k h g = elim (cases_lt m k) [
  | inl l ↦ absurd (g.least m h.positive l h.holds)
  | inr l ↦ elim (cases_lt k m) [
    | inl s ↦ absurd (h.least k g.positive s g.holds)
    | inr s ↦ omega (arith, l, s)
  ]
]

-- the least number from 1 on with a property that is decided, where some number has it
pub least_decided : (P : ℕ → Type 0) → ((j : ℕ) → P j ⊎ ¬ P j) → (k : ℕ) → 1 ≤ k → P k → (m : ℕ) × IsLeastPositive P m
least_decided P decided k positive h = elim (search k) [
  | inl found ↦ found
  | inr none ↦ absurd (none k positive (omega arith) h)
]
  where
    last_or : (j i : ℕ) → j ≤ suc i → (j ≤ i) ⊎ (j ≡ suc i)
    last_or j i l = grind arith

    search : (i : ℕ) → ((m : ℕ) × IsLeastPositive P m) ⊎ ((j : ℕ) → 1 ≤ j → j ≤ i → ¬ P j)
    search zero = inr (λ j low high. absurd (omega arith))
    search (suc i) = elim (search i) [
      | inl found ↦ inl found
      | inr none ↦ elim (decided (suc i)) [
        | inl here ↦ inl (suc i, record { positive = omega arith; holds = here; least = λ j low high. none j low (omega arith) })
        | inr n ↦ inr (λ j low high. elim (last_or j i high) [ inl l ↦ none j low l | inr e ↦ subst (λ t. ¬ P t) (sym e) n ])
      ]
    ]

-- the least common multiple divides each common one: the remainder would be a lesser
pub least_multiple_divides : {P : ℕ → Type 0} {k : ℕ} → IsLeastMultiple P k → (j : ℕ) → 1 ≤ j → ((m : ℕ) → P m → m ∣ j) → k ∣ j
least_multiple_divides {k = k} h j low each = elim (cases_eq (j % k) 0) [
  | inl none ↦ dvd_of_mod-eq-zero k none
  | inr some ↦ absurd (h.least (j % k) (omega (arith, some)) (mod-lt j h.positive) (λ m p. (dvd-mod_iff m (h.holds m p)).1 (each m p)))
]

-- no common multiple is less
pub least_multiple_le : {P : ℕ → Type 0} {k : ℕ} → IsLeastMultiple P k → (j : ℕ) → 1 ≤ j → ((m : ℕ) → P m → m ∣ j) → k ≤ j
least_multiple_le h j low each = le_of_dvd low (least_multiple_divides h j low each)

-- where the least common multiple of some of the numbers is wide, so is that of all
pub wide_multiple : {P Q : ℕ → Type 0} {k j : ℕ} → IsLeastMultiple P k → IsLeastMultiple Q j → ((m : ℕ) → P m → Q m) → IsWide k → IsWide j
wide_multiple {j = j} h g among wide = omega (arith, wide, least_multiple_le h j g.positive (λ m p. g.holds m (among m p)))

-- the least common multiple of no numbers
pub least_multiple_none : {P : ℕ → Type 0} → ((m : ℕ) → ¬ P m) → IsLeastMultiple P 1
least_multiple_none none = record { positive = omega arith; holds = λ m p. absurd (none m p); least = λ k low l each. omega (arith, low, l) }

-- the same numbers have the same least common multiple
pub least_multiple_same : {P Q : ℕ → Type 0} {k : ℕ} → ((m : ℕ) → P m ↔ Q m) → IsLeastMultiple P k → IsLeastMultiple Q k
least_multiple_same same h = record { positive = h.positive; holds = λ m q. h.holds m ((same m).1 q); least = λ j low l each. h.least j low l (λ m p. each m ((same m).0 p)) }

-- one more number joins the others by the least common multiple of theirs and of it
pub lcm_joins : {P : ℕ → Type 0} {k b j : ℕ} → IsLeastMultiple P k → IsLcm k b j → IsLeastMultiple (λ m. P m ⊎ (m ≡ b)) j
lcm_joins {k = k} h g = record {
  positive = g.positive;
  holds = λ m either. elim either [
    | inl p ↦ dvd_trans m (h.holds m p) (g.holds k (inl refl))
    | inr e ↦ g.holds m (inr e)
  ];
  least = λ i low l each. g.least i low l (λ m either. elim either [
    | inl e ↦ subst (λ (n : ℕ). n ∣ i) (sym e) (least_multiple_divides h i low (λ n p. each n (inl p)))
    | inr e ↦ each m (inr e)
  ]);
}

-- where the product of a and b is s times a number that b divides, s divides a
factor_divides : (a b j s : ℕ) → 1 ≤ b → b ∣ j → a * b ≡ s * j → s ∣ a
factor_divides a b j s low d e = dvd_of_mul-dvd-mul_right s low (subst (λ (n : ℕ). s * b ∣ n) (sym e) (mul-dvd-mul_left b s d))

-- no proper part of the product over the greatest common divisor is a common multiple
no_part : (a b g k j s : ℕ) → 1 ≤ a → 1 ≤ b → IsGcd a b g → a * b ≡ g * k → s * j ≡ k → j < k → a ∣ j → b ∣ j → ⊥
no_part a b g k j s one two common is part l first second =
    let product : a * b ≡ (g * s) * j = is ∙ ap (λ (n : ℕ). g * n) (sym part) ∙ omega arith in
    let some : 1 ≤ g = pos_of_dvd_of_pos common.0 one in
    let most : g * s ≤ g = le_of_dvd some (common.2 (g * s) (factor_divides a b j (g * s) two second product) (factor_divides b a j (g * s) one first (mul_comm b a ∙ product))) in
    omega (arith, some, mul-le-mul_left g (two_parts s j k part l), most)
  where
    two_parts : (s j k : ℕ) → s * j ≡ k → j < k → 2 ≤ s
    two_parts zero j k part l = absurd (omega (arith, part, l))
    two_parts (suc zero) j k part l = absurd (omega (arith, part, l))
    two_parts (suc (suc s)) j k part l = omega arith

-- no lesser number is a common multiple: its remainder in the product over the greatest common divisor would be another
no_lesser : (most a b g k j : ℕ) → j ≤ most → 1 ≤ a → 1 ≤ b → IsGcd a b g → a * b ≡ g * k → a ∣ k → b ∣ k → 1 ≤ j → j < k → a ∣ j → b ∣ j → ⊥
no_lesser zero a b g k j in_most one two common is first second low l to_first to_second = omega (arith, in_most, low)
no_lesser (suc most) a b g k j in_most one two common is first second low l to_first to_second = elim (cases_eq (k % j) 0) [
  | inl none ↦ no_part a b g k j (k / j) one two common is (div-mul_cancel j (dvd_of_mod-eq-zero j none)) l to_first to_second
  | inr some ↦
      let less : k % j < j = mod-lt k low in
      no_lesser most a b g k (k % j) (omega (arith, less, in_most)) one two common is first second (omega (arith, some)) (omega (arith, less, l)) ((dvd-mod_iff a to_first).1 first) ((dvd-mod_iff b to_second).1 second)
]

-- the least common multiple is the product over the greatest common divisor
pub lcm_from_gcd : (a b g : ℕ) → 1 ≤ a → 1 ≤ b → IsGcd a b g → IsLcm a b (a / g * b)
lcm_from_gcd a b g one two common =
    let whole : a / g * g ≡ a = div-mul_cancel g common.0 in
    let other : b / g * g ≡ b = div-mul_cancel g common.1 in
    let is : a * b ≡ g * (a / g * b) = ap (λ (n : ℕ). n * b) (sym whole) ∙ omega arith in
    let some : 1 ≤ a / g = pos_of_dvd_of_pos (subst (λ (n : ℕ). a / g ∣ n) whole (dvd-mul_right (a / g) g)) one in
    let times : b / g * a ≡ a / g * b = omega (arith, ap (λ (n : ℕ). b / g * n) whole, ap (λ (n : ℕ). a / g * n) other) in
    let first : a ∣ a / g * b = subst (λ (n : ℕ). a ∣ n) times (dvd-mul_left a (b / g)) in
    let second : b ∣ a / g * b = dvd-mul_left b (a / g) in
    record {
      positive = one-le-mul some two;
      holds = λ m either. elim either [
        | inl e ↦ subst (λ (n : ℕ). n ∣ a / g * b) (sym e) first
        | inr e ↦ subst (λ (n : ℕ). n ∣ a / g * b) (sym e) second
      ];
      least = λ j low l each. no_lesser j a b g (a / g * b) j (le_refl j) one two common is first second low l (each a (inl refl)) (each b (inr refl));
    }

-- there is a greatest common divisor
gcd_exists : (most a b : ℕ) → b ≤ most → (g : ℕ) × IsGcd a b g
gcd_exists zero a b small = (a, IsGcd-from_zero a b (omega arith))
gcd_exists (suc most) a b small = elim (cases_eq b 0) [
  | inl none ↦ (a, IsGcd-from_zero a b none)
  | inr some ↦ let positive : 1 ≤ b = omega (arith, some) in let g = gcd_exists most b (a % b) (omega (arith, small, mod-lt a positive)) in (g.0, IsGcd-from_mod a b g.0 g.1)
]

-- and a least common multiple
pub lcm_exists : (a b : ℕ) → 1 ≤ a → 1 ≤ b → (k : ℕ) × IsLcm a b k
lcm_exists a b one two = let g = gcd_exists b a b (le_refl b) in (a / g.0 * b, lcm_from_gcd a b g.0 one two g.1)

-- the least number with one property is the least with another one that the same numbers have
pub least_same : (P Q : ℕ → Type 0) → ((k : ℕ) → P k → Q k) → ((k : ℕ) → Q k → P k) → (m : ℕ) → IsLeastPositive P m → IsLeastPositive Q m
least_same P Q to from m h = record { positive = h.positive; holds = to m h.holds; least = λ k low less held. h.least k low less (from k held) }
