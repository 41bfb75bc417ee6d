-- Where the power rule answers none, no powers that aren't the identity are conjugate.
use Rattle.std.proofs.Common.{◌≡◌, ◌≢◌, ℕ, zero, suc, ◌*◌, ◌/◌, ◌≤◌, inl, inr, List, [], refl, sym, ap, ◌∙◌, subst, subst₂, arith, Contains}
use Rattle.std.proofs.Common.{ℤ, pos, negsuc, neg_ℤ, ◌*ℤ◌, zero-mul}
use Rattle.std.specs.Int.{◌∣◌}
use Rattle.std.proofs.Math.IntN.{pos-*ℤ-pos, *ℤ-negsuc, *ℤ-zero}
use Rattle.std.proofs.Math.Nat.{dvd-mul_left_of_dvd, dvd-mul_right, dvd-mul_right_of_dvd, mul_comm, mul_right_comm, one-le-mul}
use Rattle.std.proofs.lemmas.Int.{ints}
use Rattle.ht_word.specs.declared.shape.Shape.{Shape}
use Rattle.ht_word.specs.declared.word.Word.{Word}
use Rattle.ht_word.proofs.ListLaws.{Contains-nil, Contains-cons_cases}
use Rattle.ht_word.proofs.WordLaws.{under_refl}
use Rattle.ht_num.proofs.FractionLaws.{factors_positive, multiples_of_ratio, ratios_equal}
use Rattle.ht_pair.specs.Conjugacy.{AreConjugate, ArePowerConjugate}
use Rattle.ht_pair.specs.FiniteTrials.{FiniteTrials}
use Rattle.ht_pair.specs.Kinds.{IsCycle}
use Rattle.ht_pair.specs.Pairs.{IsPair}
use Rattle.ht_pair.specs.Parts.{HasParts, IsInfinitePart}
use Rattle.ht_pair.specs.PowerRule.{OneInfinite, Answers, PowerRule}
use Rattle.ht_pair.specs.PowerSizes.{Sign, Plus, Minus, signed}
use Rattle.ht_pair.specs.PowerTrials.{PowerAnswer, NoPowers}
use Rattle.ht_pair.specs.Products.{IsPower}
use Rattle.ht_pair.specs.Rates.{HasRates}
use Rattle.ht_pair.specs.SemiNormal.{IsQuasinormal}
use Rattle.ht_pair.specs.SignTrials.{BothParts, HasBothParts, SignTrial, SignAnswers, BothSigns}
use Rattle.ht_pair.specs.Steps.{Carries}
use Rattle.ht_pair.specs.declared.row.Row.{Row}
use Rattle.ht_pair.proofs.BasisLaws.{basis_word}
use Rattle.ht_pair.proofs.ConjugatePowerLaws.{conjugates_back, conjugates_power}
use Rattle.ht_pair.proofs.IdentityLaws.{fixed_word}
use Rattle.ht_pair.proofs.PowerLaws.{power_exists, power_conjugate_some, power_conjugate_sym}
use Rattle.ht_pair.proofs.PowerProducts.{power_mul, power_turned}
use Rattle.ht_types.proofs.PeriodicLaws.{periodic_word_either}
use Rattle.ht_types.proofs.TurnLaws.{HasSemiNormal}
use Rattle.ht_laws.proofs.FiniteOrderLaws.{finite_where_empty}
use Rattle.ht_laws.proofs.PartEndLaws.{some_infinite, attractor_rate}
use Rattle.ht_laws.proofs.PartPowerLaws.{power_of_infinite}
use Rattle.ht_laws.proofs.PeriodicOrderLaws.{periodic_order_exists}
use Rattle.ht_laws.proofs.PowerRuleLaws.{signed_some}
use Rattle.ht_power_laws.proofs.PowerCarries.{power_carries}
use Rattle.ht_power_laws.proofs.OrderPowers.{multiple_fixes, power_fixes}
use Rattle.ht_power_laws.proofs.FinitePowers.{conjugate_fixes, finite_powers}
use Rattle.ht_power_laws.proofs.RatesInRatio.{rates_in_ratio, rates_in_ratio_minus}
use Rattle.ht_power_laws.proofs.EqualRootsLaw.{equal_roots}

-- ---- exponents from 1 on

-- conjugate powers by exponents from 1 on, the second with the sign
record ConjugatePowers (shape : Shape) (a b : List Row) (sign : Sign) (i j : ℕ) : Type 0 where
  some_i : 1 ≤ i
  some_j : 1 ≤ j
  s : List Row
  t : List Row
  first_power : IsPower shape a (pos i) s
  second_power : IsPower shape b (signed sign j) t
  conjugate : AreConjugate shape s t

-- such powers, for some sign and exponents
record HaveConjugatePowers (shape : Shape) (a b : List Row) : Type 0 where
  sign : Sign
  i : ℕ
  j : ℕ
  powers : ConjugatePowers shape a b sign i j

-- conjugate powers of which the first exponent is above 0, and the second not 0, are such
signed_powers : {shape : Shape} {a b s t : List Row} (i : ℕ) (j : ℤ) → j ≢ pos 0 → IsPower shape a (pos (suc i)) s → IsPower shape b j t
    → AreConjugate shape s t → HaveConjugatePowers shape a b
signed_powers {shape} {a} {b} {s} {t} i j other first second c = by j other second
  where
    these : (sign : Sign) (k : ℕ) → IsPower shape b (signed sign (suc k)) t → HaveConjugatePowers shape a b
    these sign k power = record {
      sign = sign;
      i = suc i;
      j = suc k;
      powers = record { some_i = omega arith; some_j = omega arith; s = s; t = t; first_power = first; second_power = power; conjugate = c };
    }

    by : (j : ℤ) → j ≢ pos 0 → IsPower shape b j t → HaveConjugatePowers shape a b
    by (pos zero) other power = absurd (other refl)
    by (pos (suc k)) other power = these Plus k power
    by (negsuc k) other power = these Minus k power

-- where powers that aren't the identity are conjugate, there are such: exponents below 0 are turned round on both sides
have_powers : {shape : Shape} {a b : List Row} (i j : ℤ) → IsPair shape a → IsPair shape b → ArePowerConjugate shape a b i j
    → HaveConjugatePowers shape a b
have_powers {shape} {a} {b} (pos zero) j pair_a pair_b h = absurd (power_conjugate_some shape a b (pos zero) j h refl)
have_powers {shape} {a} {b} (pos (suc i)) j pair_a pair_b h =
    let other = power_conjugate_some shape b a j (pos (suc i)) (power_conjugate_sym shape a b (pos (suc i)) j h) in
    signed_powers i j other h.first_power h.second_power h.conjugate
have_powers {shape} {a} {b} (negsuc i) j pair_a pair_b h =
    let other = power_conjugate_some shape b a j (negsuc i) (power_conjugate_sym shape a b (negsuc i) j h) in
    let by = h.conjugate.by in
    let back = conjugates_back shape by h.first h.second h.first_power.pair h.second_power.pair h.conjugate.conjugates in
    signed_powers i (neg_ℤ j) (λ e. other (twice j e)) (power_turned shape a h.first (negsuc i) pair_a h.first_power)
    (power_turned shape b h.second j pair_b h.second_power) (record { by = by; conjugates = back })
  where
    twice : (k : ℤ) → neg_ℤ k ≡ pos 0 → k ≡ pos 0
    twice k e = omega (arith, ints, e)

-- ---- signed numbers

-- a number times a signed number
signed_times : (sign : Sign) (k j : ℕ) → pos k *ℤ signed sign j ≡ signed sign (j * k)
signed_times sign k j = by sign j
  where
    ahead : (j : ℕ) → pos k *ℤ pos j ≡ pos (j * k)
    ahead j = pos-*ℤ-pos k j ∙ ap pos (mul_comm k j)

    by : (sign : Sign) (j : ℕ) → pos k *ℤ signed sign j ≡ signed sign (j * k)
    by Plus j = ahead j
    by Minus zero = *ℤ-zero (pos k) ∙ ap (λ (n : ℕ). neg_ℤ (pos n)) (sym (zero-mul k))
    by Minus (suc j) = *ℤ-negsuc (pos k) j ∙ ap neg_ℤ (ahead (suc j))

-- ---- one infinite part empty

-- powers of an element whose infinite part is empty, and of one whose isn't, aren't conjugate
one_empty : {shape : Shape} {a b : List Row} {X Y J : List Word} {sign : Sign} {i j : ℕ} → HasSemiNormal shape a X → HasSemiNormal shape b Y
    → IsInfinitePart shape a X [] → IsInfinitePart shape b Y J → J ≢ [] → ConjugatePowers shape a b sign i j → ⊥
one_empty {shape} {a} {b} {X} {Y} {J} {sign} {i} {j} first second none part some h =
    let k = (finite_where_empty shape a X first.pair first.semi).0 none in
    let y = some_infinite shape b Y J part some in
    let word = basis_word shape Y second.semi.basis y.0 y.1.0 in
    -- the k-th powers of both conjugate powers are the identity
    let here = (power_fixes first.pair h.first_power k.0).1 (multiple_fixes first.pair k.1 k.2 (k.0 * i) (dvd-mul_right k.0 i)) in
    let there = fixed_word shape h.t k.0 (conjugate_fixes h.first_power.pair h.second_power.pair h.conjugate k.0 here) y.0 word in
    let round = (power_carries second.pair h.second_power (pos k.0) y.0 y.0).0 there in
    let home = subst (λ n. Carries shape b n y.0 y.0) (signed_times sign k.0 j) round in
    let other = signed_some sign (j * k.0) (one-le-mul h.some_j k.1) in
    y.1.1 (periodic_word_either shape b second.pair Y second.semi (signed sign (j * k.0)) y.0 y.0 other y.1.0 (under_refl y.0) home)

-- ---- both infinite parts empty

-- trials that end in none have refuted each of their divisors
divisors_refuted : {shape : Shape} {a b : List Row} {M N : ℕ} {ds : List ℕ} (d : ℕ) → Contains ds d
    → ((f g : List Row) → IsPower shape a (pos (M / d)) f → IsPower shape b (pos (N / d)) g → AreConjugate shape f g)
    → FiniteTrials shape a b M N ds NoPowers → ⊥
divisors_refuted d c conjugate FiniteTrials.none_left = Contains-nil d c
divisors_refuted {shape} {a} {b} {M} {N} d c conjugate (FiniteTrials.go_on {d = e} {ds = rest} {f = f} {g = g} compares not later) =
    elim (Contains-cons_cases e rest d c) [
      | inl same ↦ not (conjugate f g (subst (λ k. IsPower shape a (pos (M / k)) f) same compares.first_power)
          (subst (λ k. IsPower shape b (pos (N / k)) g) same compares.second_power))
      | inr there ↦ divisors_refuted d there conjugate later
    ]

-- ---- neither infinite part empty

-- the N-th power of a power of p is one of the infinite part of p, where the length of each cycle divides N
power_of_both : {shape : Shape} {p : List Row} {X : List Word} → HasSemiNormal shape p X → (s t : List Row) → HasParts shape p X s t
    → (sign : Sign) (i N : ℕ) → ((x : Word) (m : ℕ) → Contains X x → IsCycle shape p x m → m ∣ N)
    → (f q : List Row) → IsPower shape p (signed sign i) f → IsPower shape f (pos N) q → IsPower shape t (signed sign (i * N)) q
power_of_both {shape} {p} h s t parts sign i N divides f q power again =
    let k = signed sign i in
    let pair = parts.on_infinite.pair in
    let g = power_exists shape t k pair in
    let whole = subst (λ n. IsPower shape p n q) (signed_times sign N i) (power_mul shape p f q k (pos N) h.pair power again) in
    let by_part = power_of_infinite h s t parts sign i N divides g.0 q g.1 whole in
    subst (λ n. IsPower shape t n q) (signed_times sign N i) (power_mul shape t g.0 q k (pos N) pair g.1 by_part)

module _ {shape : Shape} {a b : List Row} {X Y : List Word} (pair_a : IsPair shape a) (pair_b : IsPair shape b) (least_a : IsQuasinormal shape a X) (least_b : IsQuasinormal shape b Y) where
  first : HasSemiNormal shape a X
  first = record { pair = pair_a; semi = least_a.semi_normal }

  second : HasSemiNormal shape b Y
  second = record { pair = pair_b; semi = least_b.semi_normal }

  -- where powers are conjugate, so are powers of the infinite parts, by multiples of the exponents
  parts_conjugate : {sign : Sign} {i j : ℕ} (parts : BothParts) → HasBothParts shape a b X Y parts → ConjugatePowers shape a b sign i j
      → (N : ℕ) × ConjugatePowers shape parts.a_infinite parts.b_infinite sign (i * N) (j * N)
  parts_conjugate {sign} {i} {j} parts has h =
      let k = periodic_order_exists shape a X parts.a_periodic parts.a_infinite has.first in
      let l = periodic_order_exists shape b Y parts.b_periodic parts.b_infinite has.second in
      let N = k.0 * l.0 in
      let some = one-le-mul k.1.positive l.1.positive in
      let f = power_exists shape h.s (pos N) h.first_power.pair in
      let g = power_exists shape h.t (pos N) h.second_power.pair in
      let by = h.conjugate.by in (
        N,
        record {
          some_i = one-le-mul h.some_i some;
          some_j = one-le-mul h.some_j some;
          s = f.0;
          t = g.0;
          first_power = power_of_both first parts.a_periodic parts.a_infinite has.first Plus i N
              (λ x m c cycle. dvd-mul_right_of_dvd m (k.1.holds m (x, c, cycle)) l.0) h.s f.0 h.first_power f.1;
          second_power = power_of_both second parts.b_periodic parts.b_infinite has.second sign j N
              (λ y m c cycle. dvd-mul_left_of_dvd m (l.1.holds m (y, c, cycle)) k.0) h.t g.0 h.second_power g.1;
          conjugate = record {
            by = by;
            conjugates = conjugates_power shape by h.s h.t f.0 g.0 (pos N) h.first_power.pair h.second_power.pair h.conjugate.conjugates f.1 g.1;
          };
        },
      )

  module _ {M A B C D : ℕ} (rates : HasRates shape a b X Y M A B C D) (low : 1 ≤ A) where
    -- where exponents of conjugate powers are in the ratio of the rates, the sign with these rates doesn't end in none
    sign_refuted : {sign : Sign} {i j : ℕ} (behind over over_behind : ℕ) (later : PowerAnswer → Type 0) → ConjugatePowers shape a b sign i j
        → (i * A ≡ j * over) × (i * behind ≡ j * over_behind) → SignAnswers shape a b X Y sign M A behind over over_behind later NoPowers → ⊥
    sign_refuted {sign} {i} {j} behind over over_behind later h same (SignAnswers.left_out differ rest) =
        differ (ratios_equal i j A behind over over_behind h.some_i h.some_j same.0 same.1)
    sign_refuted {sign} {i} {j} behind over over_behind later h same
        (SignAnswers.tried {p = p} {q = q} equal ratio (SignTrial.go_on {f = f} {g = g} compares not rest)) =
        let parts = compares.parts in
        let has = compares.has_parts in
        let r = parts_conjugate parts has h in
        let N = r.0 in
        let scaled : i * N * A ≡ j * N * over = mul_right_comm i N A ∙ ap (λ (n : ℕ). n * N) same.0 ∙ mul_right_comm j over N in
        let k = multiples_of_ratio over A p q (i * N) (j * N) low r.1.some_i r.1.some_j ratio scaled in
        let c = subst₂ (ConjugatePowers shape parts.a_infinite parts.b_infinite sign) k.1 k.2 r.1 in
        let some = factors_positive p k.0 c.some_i in
        not (equal_roots shape a b parts.a_periodic parts.a_infinite parts.b_periodic parts.b_infinite c.s c.t f g X Y M A B C D k.0 p q sign
        pair_a pair_b least_a least_b rates has.first has.second some.1 some.0 ratio.positive c.first_power c.second_power c.conjugate
        compares.compares.first_power compares.compares.second_power)

    -- the trial of a sign that ends in none goes on with what comes later
    later_none : {sign : Sign} {behind over over_behind : ℕ} {later : PowerAnswer → Type 0}
        → SignAnswers shape a b X Y sign M A behind over over_behind later NoPowers → later NoPowers
    later_none (SignAnswers.left_out differ rest) = rest
    later_none (SignAnswers.tried equal ratio (SignTrial.go_on compares not rest)) = rest

    -- so neither sign does
    signs_refuted : {i j : ℕ} (sign : Sign) → ConjugatePowers shape a b sign i j → BothSigns shape a b X Y M A B C D NoPowers → ⊥
    signs_refuted {i} {j} Plus h signs =
        sign_refuted B C D _ h (rates_in_ratio shape a b h.s h.t X Y M A B C D i j pair_a pair_b least_a least_b rates h.some_i h.some_j
        h.first_power h.second_power h.conjugate) signs
    signs_refuted {i} {j} Minus h signs =
        sign_refuted B D C _ h (rates_in_ratio_minus shape a b h.s h.t X Y M A B C D i j pair_a pair_b least_a least_b rates h.some_i h.some_j
        h.first_power h.second_power h.conjugate) (later_none signs)

  -- ---- the rule

  -- where the answer is none once both bases are at hand, no powers that aren't the identity are conjugate
  answers_none : (i j : ℤ) → Answers shape a b X Y NoPowers → ¬ ArePowerConjugate shape a b i j
  answers_none i j (Answers.one_infinite (OneInfinite.first_infinite part some none)) h =
      one_empty second first none part some (have_powers j i pair_b pair_a (power_conjugate_sym shape a b i j h)).powers
  answers_none i j (Answers.one_infinite (OneInfinite.second_infinite none part some)) h =
      one_empty first second none part some (have_powers i j pair_a pair_b h).powers
  answers_none i j (Answers.finite {order_a = M} {order_b = N} both fit ascending tried trials) h =
      let d = finite_powers shape a b X Y M N i j pair_a pair_b least_a least_b both h in
      divisors_refuted d.0 ((tried d.0).1 d.1) d.2 trials
  answers_none i j (Answers.infinite {M = M} {ahead_a = A} both rates fit signs) h =
      let x = some_infinite shape a X both.first both.first_part both.first_some in
      let low = attractor_rate first x.0 x.1 M A rates.period.positive (λ m period. rates.period.holds m (inl period)) rates.first_ahead in
      let these = have_powers i j pair_a pair_b h in
      signs_refuted rates low these.sign these.powers signs

-- where the power rule answers none, no powers that aren't the identity are conjugate
pub rule_none : (shape : Shape) (a b : List Row) (budget : ℕ) (i j : ℤ) → IsPair shape a → IsPair shape b → PowerRule shape a b budget NoPowers
    → ¬ ArePowerConjugate shape a b i j
rule_none shape a b budget i j pair_a pair_b (PowerRule.answers first second small also answered) h =
    answers_none pair_a pair_b first second i j answered h
