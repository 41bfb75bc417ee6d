-- A fraction has one lowest form, both numbers over their greatest common divisor; equal fractions are multiples of it.
use Rattle.std.proofs.Common.{◌≡◌, ℕ, zero, suc, ◌*◌, ◌/◌, ◌≤◌, inl, inr, sym, ap, subst, ◌∙◌, arith}
use Rattle.std.specs.Int.{◌∣◌, IsGcd}
use Rattle.std.proofs.lemmas.Nat.Gcd.{dvd_refl, dvd-zero, dvd_trans, dvd_antisymm}
use Rattle.std.proofs.Math.Nat.{div-mul_cancel, dvd_of_mul-dvd-mul_left, dvd-mul_left, dvd-mul_right, eq_of_mul-eq-mul_right, mul-dvd-mul_left, mul_assoc, mul_comm, mul_right_comm, one-dvd, one-le-mul, pos_of_dvd_of_pos}
use Rattle.ht_num.specs.Numbers.{IsRatio}
use Rattle.ht_num.proofs.NumberLaws.{least_multiple_divides, lcm_from_gcd}

-- a number prime to another divides k where it divides the product of the other and k
coprime_divides : (p q k : ℕ) → 1 ≤ p → 1 ≤ q → 1 ≤ k → IsGcd p q 1 → q ∣ p * k → q ∣ k
coprime_divides p q k low some positive lowest d =
    let whole : p / 1 * q ∣ p * k = least_multiple_divides (lcm_from_gcd p q 1 low some lowest) (p * k) (one-le-mul low positive) (λ m either. elim either [
      | inl e ↦ subst (λ (n : ℕ). n ∣ p * k) (sym e) (dvd-mul_right p k)
      | inr e ↦ subst (λ (n : ℕ). n ∣ p * k) (sym e) d
    ]) in
    let one : p / 1 ≡ p = omega arith in
    dvd_of_mul-dvd-mul_left q low (subst (λ (n : ℕ). n * q ∣ p * k) one whole)

-- of two equal fractions the first, where it is in lowest terms, has a denominator that divides the other's
denominator_divides : (p q r s : ℕ) → 1 ≤ q → 1 ≤ s → IsGcd p q 1 → p * s ≡ r * q → q ∣ s
denominator_divides zero q r s some positive lowest e =
    let one : 1 * s ≡ s = omega arith in
    dvd_trans q (lowest.2 q (dvd-zero q) (dvd_refl q)) (subst (λ (n : ℕ). 1 ∣ n) one (dvd-mul_right 1 s))
denominator_divides (suc p) q r s some positive lowest e = coprime_divides (suc p) q s (omega arith) some positive lowest (subst (λ (n : ℕ). q ∣ n) (sym e) (dvd-mul_left q r))

-- a fraction has one lowest form
pub ratio_once : (b a p q r s : ℕ) → 1 ≤ a → IsRatio b a p q → IsRatio b a r s → (p ≡ r) × (q ≡ s)
ratio_once b a p q r s low h g =
    let cross : p * s ≡ r * q = eq_of_mul-eq-mul_right a low (p * s) (r * q) (turn p s a ∙ ap (λ (n : ℕ). n * s) h.equal ∙ exchange q b s ∙ ap (λ (n : ℕ). n * q) (sym g.equal) ∙ turn r a q) in
    let same : q ≡ s = dvd_antisymm (denominator_divides p q r s h.positive g.positive h.lowest cross) (denominator_divides r s p q g.positive h.positive g.lowest (sym cross)) in
    (eq_of_mul-eq-mul_right q h.positive p r (ap (λ (n : ℕ). p * n) same ∙ cross), same)
  where
    turn : (x y z : ℕ) → (x * y) * z ≡ (x * z) * y
    turn x y z = omega arith

    exchange : (x y z : ℕ) → (x * y) * z ≡ (z * y) * x
    exchange x y z = omega arith

-- both numbers over their greatest common divisor are the lowest form
pub ratio_from_gcd : (a b g : ℕ) → 1 ≤ b → IsGcd a b g → IsRatio a b (a / g) (b / g)
ratio_from_gcd a b g low common =
    let first : a / g * g ≡ a = div-mul_cancel g common.0 in
    let second : b / g * g ≡ b = div-mul_cancel g common.1 in
    let some : 1 ≤ g = pos_of_dvd_of_pos common.1 low in
    let once : g * 1 ≡ g = omega arith in
    record {
      positive = pos_of_dvd_of_pos (subst (λ (n : ℕ). b / g ∣ n) second (dvd-mul_right (b / g) g)) low;
      equal = omega (arith, ap (λ (n : ℕ). a / g * n) second, ap (λ (n : ℕ). b / g * n) first);
      lowest = (one-dvd (a / g), one-dvd (b / g), λ d divides_first divides_second. dvd_of_mul-dvd-mul_left d some (subst (λ (n : ℕ). g * d ∣ n) (sym once) (common.2 (g * d) (over d (a / g) divides_first first) (over d (b / g) divides_second second))));
    }
  where
    over : (d k : ℕ) {n : ℕ} → d ∣ k → k * g ≡ n → g * d ∣ n
    over d k divides whole = subst (λ (n : ℕ). g * d ∣ n) (omega arith ∙ whole) (mul-dvd-mul_left d g divides)

-- the factors of a number from 1 on are from 1 on
pub factors_positive : (m n : ℕ) → 1 ≤ m * n → (1 ≤ m) × (1 ≤ n)
factors_positive m n low = (pos_of_dvd_of_pos (dvd-mul_right m n) low, pos_of_dvd_of_pos (dvd-mul_left n m) low)

-- where i a is j b, and p / q is b / a in lowest terms, i is p k and j is q k
pub multiples_of_ratio : (b a p q i j : ℕ) → 1 ≤ a → 1 ≤ i → 1 ≤ j → IsRatio b a p q → i * a ≡ j * b → (k : ℕ) × (i ≡ p * k) × (j ≡ q * k)
multiples_of_ratio b a p q i j low some_i some_j ratio same =
    let by_ratio = mul_right_comm p j a ∙ ap (λ (n : ℕ). n * j) ratio.equal ∙ exchange q b j in
    let scaled = by_ratio ∙ ap (λ (n : ℕ). n * q) (sym same) ∙ mul_right_comm i a q in
    let cross : p * j ≡ i * q = eq_of_mul-eq-mul_right a low (p * j) (i * q) scaled in
    let some_p = (factors_positive p j (subst (λ (n : ℕ). 1 ≤ n) (sym cross) (one-le-mul some_i ratio.positive))).0 in
    let divides : q ∣ j = coprime_divides p q j some_p ratio.positive some_j ratio.lowest (subst (λ (n : ℕ). q ∣ n) (sym cross) (dvd-mul_left q i)) in
    let k = j / q in
    let second : k * q ≡ j = div-mul_cancel q divides in
    let first : p * k * q ≡ i * q = mul_assoc p k q ∙ ap (λ (n : ℕ). p * n) second ∙ cross in
    (k, eq_of_mul-eq-mul_right q ratio.positive i (p * k) (sym first), sym second ∙ mul_comm k q)
  where
    exchange : (x y z : ℕ) → x * y * z ≡ z * y * x
    exchange x y z = omega arith

-- two pairs of numbers that are to one another as i to j have one ratio
pub ratios_equal : (i j a b over over_behind : ℕ) → 1 ≤ i → 1 ≤ j → i * a ≡ j * over → i * b ≡ j * over_behind → over * b ≡ over_behind * a
ratios_equal i j a b over over_behind some_i some_j ahead behind =
    let scaled = regroup over b j i ∙ ap (λ (n : ℕ). n * (i * b)) (sym ahead) ∙ ap (λ (n : ℕ). i * a * n) behind ∙ regroup_back i a j over_behind in
    eq_of_mul-eq-mul_right (j * i) (one-le-mul some_j some_i) (over * b) (over_behind * a) scaled
  where
    regroup : (x y z w : ℕ) → x * y * (z * w) ≡ z * x * (w * y)
    regroup x y z w = omega arith

    regroup_back : (x y z w : ℕ) → x * y * (z * w) ≡ w * y * (z * x)
    regroup_back x y z w = omega arith
