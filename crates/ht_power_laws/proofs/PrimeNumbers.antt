-- Prime numbers.
--
--     IsPrime d           d is at least 2, and no number from 2 on that is less divides it
--     IsResidue d q m     a multiple of q is m and a multiple of d
--     HasPrimePart d M i  d divides M, and i is M over d, times a number that d doesn't divide
--     HaveCommonPrime M N i j    some multiple of i and of j, by one number, has such a part of M and of N, for one prime
use Rattle.std.proofs.Common.{◌≡◌, ℕ, zero, suc, ◌+◌, ◌-◌, ◌*◌, ◌/◌, ◌%◌, ◌≤◌, ◌<◌, ◌⊎◌, inl, inr, sym, ap, ◌∙◌, subst, arith}
use Rattle.std.specs.Int.{◌∣◌}
use Rattle.std.proofs.lemmas.Bool.{cases_lt, cases_eq}
use Rattle.std.proofs.lemmas.Nat.{div-add-mod'}
use Rattle.std.proofs.lemmas.Nat.Gcd.{dvd_refl, dvd_trans, dvd_of_mod-eq-zero, mod-eq-zero_of_dvd}
use Rattle.std.proofs.Math.Nat.{div-mul_cancel, dvd-add_iff_left, dvd-mul_left, dvd-mul_right, dvd-mul_right_of_dvd, eq_of_mul-eq-mul_right, mod-lt}
use Rattle.ht_num.proofs.NumberLaws.{least_decided}
use Rattle.ht_laws.proofs.PartPowerLaws.{proper_part}

pub record IsPrime (d : ℕ) : Type 0 where
  pub not_one : 2 ≤ d
  pub proper : (k : ℕ) → 2 ≤ k → k < d → ¬ (k ∣ d)

-- a number divides another or not
pub divides_or_not : (d n : ℕ) → (d ∣ n) ⊎ ¬ (d ∣ n)
divides_or_not d n = elim (cases_eq (n % d) 0) [
  | inl e ↦ inl (dvd_of_mod-eq-zero d e)
  | inr some ↦ inr (λ h. some (mod-eq-zero_of_dvd d h))
]

-- a prime divides each number from 2 on
pub prime_divisor : (e : ℕ) → 2 ≤ e → (d : ℕ) × IsPrime d × (d ∣ e)
prime_divisor e two =
    let m = least_decided (λ k. (2 ≤ k) × (k ∣ e)) decided e (omega (arith, two)) (two, dvd_refl e) in
    (m.0, record { not_one = m.1.holds.0; proper = λ k low less h. m.1.least k (omega (arith, low)) less (low, dvd_trans k h m.1.holds.1) }, m.1.holds.1)
  where
    decided : (k : ℕ) → ((2 ≤ k) × (k ∣ e)) ⊎ ¬ ((2 ≤ k) × (k ∣ e))
    decided k = elim (cases_lt k 2) [
      | inl small ↦ inr (λ h. omega (arith, small, h.0))
      | inr low ↦ elim (divides_or_not k e) [ inl h ↦ inl (low, h) | inr n ↦ inr (λ h. n h.1) ]
    ]

-- ---- inverses

pub record IsResidue (d q m : ℕ) : Type 0 where
  pub times : ℕ
  pub over : ℕ
  pub is : times * q ≡ m + over * d

-- with m, so is what m leaves of d: c D times as much, where d is D + 1, and c m and what is left
residue_left : (D q m c t left : ℕ) → c * m ≡ suc t → t + left ≡ D → IsResidue (suc D) q m → IsResidue (suc D) q left
residue_left D q m c t left part whole r = record {
  times = c * D * r.times;
  over = t + c * D * r.over;
  is = regroup c D r.times q ∙ ap (λ (n : ℕ). c * D * n) r.is ∙ spread c D m r.over ∙ ap (λ (n : ℕ). n * D + c * D * r.over * suc D) part ∙ gather t left D (c * D * r.over) whole;
}
  where
    regroup : (c D x q : ℕ) → c * D * x * q ≡ c * D * (x * q)
    regroup c D x q = omega arith

    spread : (c D m y : ℕ) → c * D * (m + y * suc D) ≡ c * m * D + c * D * y * suc D
    spread c D m y = omega arith

    gather : (t left D z : ℕ) → t + left ≡ D → suc t * D + z * suc D ≡ left + (t + z) * suc D
    gather t left D z e = omega (arith, e)

-- so 1 is left in the end
residue_one : (most D q m : ℕ) → m ≤ most → IsPrime (suc D) → 1 ≤ m → m ≤ D → IsResidue (suc D) q m → IsResidue (suc D) q 1
residue_one zero D q m within prime low less r = absurd (omega (arith, within, low))
residue_one (suc most) D q m within prime low less r = elim (cases_lt m 2) [
  | inl one ↦ (let same : m ≡ 1 = omega (arith, one, low) in subst (IsResidue (suc D) q) same r)
  | inr two ↦
      let whole : suc D / m * m + suc D % m ≡ suc D = div-add-mod' (suc D) m in
      let small : suc D % m < m = mod-lt (suc D) low in
      elim (cases_eq (suc D % m) 0) [
        | inl none ↦ absurd (prime.proper m two (omega (arith, less)) (dvd_of_mod-eq-zero m none))
        | inr some ↦ residue_one most D q (suc D % m) (omega (arith, small, within)) prime (omega (arith, some)) (omega (arith, small, less))
            (residue_left D q m (suc D / m) (suc D / m * m - 1) (suc D % m) (omega (arith, whole, small, less)) (omega (arith, whole, small, less)) r)
      ]
]

-- a number that a prime doesn't divide has a multiple that is 1 and a multiple of the prime
pub inverse_exists : (d q : ℕ) → IsPrime d → ¬ (d ∣ q) → IsResidue d q 1
inverse_exists zero q prime n = absurd (omega (arith, prime.not_one))
inverse_exists (suc D) q prime n = elim (cases_eq (q % suc D) 0) [
  | inl none ↦ absurd (n (dvd_of_mod-eq-zero (suc D) none))
  | inr some ↦
      let small : q % suc D < suc D = mod-lt q (omega arith) in
      residue_one (q % suc D) D q (q % suc D) (omega arith) prime (omega (arith, some)) (omega (arith, small)) (record { times = 1; over = q / suc D; is = omega (arith, div-add-mod' q (suc D)) })
]

-- a prime that divides a product and not its first factor divides the second
pub prime_divides : (d x y : ℕ) → IsPrime d → d ∣ x * y → ¬ (d ∣ x) → d ∣ y
prime_divides d x y prime h n =
    let r = inverse_exists d x prime n in
    let sum : x * y * r.times ≡ y + r.over * y * d = regroup x y r.times ∙ ap (λ (k : ℕ). y * k) r.is ∙ spread y r.over in
    (dvd-add_iff_left d {m = y} (dvd-mul_left d (r.over * y))).1 (subst (λ (k : ℕ). d ∣ k) sum (dvd-mul_right_of_dvd d h r.times))
  where
    regroup : (x y t : ℕ) → x * y * t ≡ y * (t * x)
    regroup x y t = omega arith

    spread : (y k : ℕ) → y * (1 + k * d) ≡ y + k * y * d
    spread y k = omega arith

-- ---- the part of a number at a prime

pub record HasPrimePart (d M i : ℕ) : Type 0 where
  pub divides : d ∣ M
  pub times : ℕ
  pub is : i ≡ times * (M / d)
  pub prime_to : ¬ (d ∣ times)

-- where d times i is a multiple of M, and i isn't, for a prime d
pub prime_part : (d M i : ℕ) → IsPrime d → M ∣ d * i → ¬ (M ∣ i) → HasPrimePart d M i
prime_part d M i prime multiple n = by (d * i / M) (div-mul_cancel M multiple)
  where
    low : 1 ≤ d
    low = omega (arith, prime.not_one)

    turn : (k : ℕ) → k * M * d ≡ k * d * M
    turn k = omega arith

    regroup : (q k : ℕ) → q * k * d ≡ q * (k * d)
    regroup q k = omega arith

    -- the other factor is no multiple of d
    prime_to : (q : ℕ) → q * M ≡ d * i → ¬ (d ∣ q)
    prime_to q is h =
        let same : q / d * M ≡ i = eq_of_mul-eq-mul_right d low (q / d * M) i (turn (q / d) ∙ ap (λ (k : ℕ). k * M) (div-mul_cancel d h) ∙ is ∙ omega arith) in
        n (subst (λ (k : ℕ). M ∣ k) same (dvd-mul_left M (q / d)))

    by : (q : ℕ) → q * M ≡ d * i → HasPrimePart d M i
    by q is = elim (divides_or_not d M) [
      | inl h ↦
          let whole : q * (M / d) * d ≡ i * d = regroup q (M / d) ∙ ap (λ (k : ℕ). q * k) (div-mul_cancel d h) ∙ is ∙ omega arith in
          record { divides = h; times = q; is = sym (eq_of_mul-eq-mul_right d low (q * (M / d)) i whole); prime_to = prime_to q is }
      | inr m ↦
          let product : d * i ≡ M * q = sym is ∙ omega arith in
          absurd (prime_to q is (prime_divides d M q prime (subst (λ (k : ℕ). d ∣ k) product (dvd-mul_right d i)) m))
    ]

-- a prime that divides M divides each divisor of M that doesn't divide M over the prime
pub prime_in_divisor : (d M m : ℕ) → IsPrime d → d ∣ M → m ∣ M → ¬ (m ∣ M / d) → d ∣ m
prime_in_divisor d M m prime h part n = elim (divides_or_not d m) [
  | inl k ↦ k
  | inr not ↦ absurd (by (M / m) (div-mul_cancel m part) not)
]
  where
    low : 1 ≤ d
    low = omega (arith, prime.not_one)

    regroup : (c : ℕ) → c * m * d ≡ c * d * m
    regroup c = omega arith

    by : (c : ℕ) → c * m ≡ M → ¬ (d ∣ m) → ⊥
    by c is not =
        let product : M ≡ m * c = sym is ∙ omega arith in
        let k : d ∣ c = prime_divides d m c prime (subst (λ (j : ℕ). d ∣ j) product h) not in
        let same : c / d * m ≡ M / d = eq_of_mul-eq-mul_right d low (c / d * m) (M / d) (regroup (c / d) ∙ ap (λ (j : ℕ). j * m) (div-mul_cancel d k) ∙ is ∙ sym (div-mul_cancel d h)) in
        n (subst (λ (j : ℕ). m ∣ j) same (dvd-mul_left m (c / d)))

pub record HaveCommonPrime (M N i j : ℕ) : Type 0 where
  pub prime : ℕ
  pub is_prime : IsPrime prime
  pub times : ℕ
  pub first : HasPrimePart prime M (times * i)
  pub second : HasPrimePart prime N (times * j)

-- where M divides the multiples of i by those numbers by which N divides those of j, and doesn't divide i: some prime divides the least such number
pub common_prime : (M N i j : ℕ) → 1 ≤ M → ((k : ℕ) → M ∣ k * i → N ∣ k * j) → ((k : ℕ) → N ∣ k * j → M ∣ k * i) → ¬ (M ∣ i) → HaveCommonPrime M N i j
common_prime M N i j positive to from n =
    let e = least_decided (λ k. M ∣ k * i) (λ k. divides_or_not M (k * i)) M positive (dvd-mul_right M i) in
    let d = prime_divisor e.0 (more e.0 e.1.positive e.1.holds) in
    let part = proper_part e.0 d.0 e.1.positive d.1.not_one d.2 in
    record {
      prime = d.0;
      is_prime = d.1;
      times = e.0 / d.0;
      first = prime_part d.0 M (e.0 / d.0 * i) d.1 (subst (λ k. M ∣ k) (regroup e.0 d.0 i d.2) e.1.holds) (e.1.least (e.0 / d.0) part.0 part.1);
      second = prime_part d.0 N (e.0 / d.0 * j) d.1 (subst (λ k. N ∣ k) (regroup e.0 d.0 j d.2) (to e.0 e.1.holds)) (λ h. e.1.least (e.0 / d.0) part.0 part.1 (from (e.0 / d.0) h));
    }
  where
    more : (k : ℕ) → 1 ≤ k → M ∣ k * i → 2 ≤ k
    more k low h = elim (cases_lt k 2) [
      | inl one ↦ (let same : k * i ≡ i = ap (λ (l : ℕ). l * i) (only k low one) ∙ omega arith in absurd (n (subst (λ l. M ∣ l) same h)))
      | inr two ↦ two
    ]
      where
        only : (k : ℕ) → 1 ≤ k → k < 2 → k ≡ 1
        only k low one = omega (arith, low, one)

    regroup : (e d k : ℕ) → d ∣ e → e * k ≡ d * (e / d * k)
    regroup e d k h = ap (λ (l : ℕ). l * k) (sym (div-mul_cancel d h)) ∙ turn (e / d) d k
      where
        turn : (c d k : ℕ) → c * d * k ≡ d * (c * k)
        turn c d k = omega arith
