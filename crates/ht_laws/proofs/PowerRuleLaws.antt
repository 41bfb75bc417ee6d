-- What the power rule prints conjugates the powers, which are not the identity.
use Rattle.std.proofs.Common.{◌≡◌, ◌≢◌, ℕ, zero, suc, ◌*◌, ◌/◌, ◌≤◌, inl, inr, List, arith, Contains, ℤ, pos, ◌<ℤ◌}
use Rattle.std.specs.Int.{◌∣◌}
use Rattle.std.proofs.Math.Nat.{one-le-mul}
use Rattle.std.proofs.lemmas.Int.{ints}
use Rattle.std.proofs.lemmas.Nat.Gcd.{dvd_trans}
use Rattle.ht_word.specs.declared.shape.Shape.{Shape}
use Rattle.ht_word.specs.declared.word.Word.{Word}
use Rattle.ht_word.proofs.ListLaws.{Contains-here, Contains-there}
use Rattle.ht_num.specs.Numbers.{IsRatio}
use Rattle.ht_pair.specs.Actions.{Alike}
use Rattle.ht_pair.specs.Atoms.{IsInfiniteWord}
use Rattle.ht_pair.specs.Conjugacy.{ArePowerConjugate, Conjugates}
use Rattle.ht_pair.specs.FiniteTrials.{FiniteTrials}
use Rattle.ht_pair.specs.Orders.{IsOrder}
use Rattle.ht_pair.specs.Pairs.{IsPair, identity}
use Rattle.ht_pair.specs.PowerRule.{BothInfinite, Answers, PowerRule}
use Rattle.ht_pair.specs.PowerSizes.{Sign, Plus, Minus, signed}
use Rattle.ht_pair.specs.PowerTrials.{PowerAnswer, IsPrinted, Powers, NoPowers}
use Rattle.ht_pair.specs.Products.{IsPower}
use Rattle.ht_pair.specs.Rates.{HasRates}
use Rattle.ht_pair.specs.SemiNormal.{IsQuasinormal}
use Rattle.ht_pair.specs.SignTrials.{SignCompares, IsCommonOrder, SignTrial, SignAnswers, BothSigns}
use Rattle.ht_pair.specs.declared.row.Row.{Row}
use Rattle.ht_pair.proofs.ConjugatePowerLaws.{conjugates_power}
use Rattle.ht_pair.proofs.PowerLaws.{power_exists}
use Rattle.ht_types.proofs.TurnLaws.{HasSemiNormal}
use Rattle.ht_laws.specs.PowerAnswers.{AreCompared}
use Rattle.ht_laws.proofs.AlikeTrialLaws.{conjugates_powers}
use Rattle.ht_laws.proofs.PartEndLaws.{some_infinite, attractor_rate, repeller_rate}
use Rattle.ht_laws.proofs.PartPowerLaws.{power_of_infinite, infinite_moves_on, order_moves_on, proper_part}
use Rattle.ht_laws.proofs.PeriodicOrderLaws.{periodic_order_exists}

-- i is above 0, and h, in canonical form, conjugates the powers of a and b by i and j, which are not the identity; it is normal for the
-- powers that are compared
pub record IsPrintedBy (shape : Shape) (a b : List Row) (i j : ℤ) (h : List Row) : Type 0 where
  pub above : pos 0 <ℤ i
  pub from : List Row
  pub to : List Row
  pub compared : AreCompared shape a b i j from to
  pub printed : IsPrinted shape from to h
  pub conjugates : (s t : List Row) → IsPower shape a i s → IsPower shape b j t → Conjugates shape h s t
  pub first_moves : (s : List Row) → IsPower shape a i s → ¬ Alike shape s (identity shape)
  pub second_moves : (t : List Row) → IsPower shape b j t → ¬ Alike shape t (identity shape)

-- a number from 1 on is above 0
above_none : (k : ℕ) → 1 ≤ k → pos 0 <ℤ pos k
above_none k low = omega (arith, ints)

-- ---- finite orders

-- the divisors are 2 at least and divide both orders
abbrev AreDivisors : List ℕ → ℕ → ℕ → Type 0
AreDivisors ds M N = (d : ℕ) → Contains ds d → (2 ≤ d) × (d ∣ M) × (d ∣ N)

-- so it is with the trials of divisors
finite_printed : (shape : Shape) (a b : List Row) (M N : ℕ) (ds : List ℕ) (i j : ℤ) (h : List Row) → IsPair shape a → IsPair shape b → IsOrder shape a M → IsOrder shape b N → AreDivisors ds M N → FiniteTrials shape a b M N ds (Powers i j h) → IsPrintedBy shape a b i j h
finite_printed shape a b M N ds i j h pair_a pair_b order_a order_b divide (FiniteTrials.found {d = d} {ds = rest} {f = f} {g = g} compares printed) =
    let fits = divide d (Contains-here d rest) in
    record {
      above = above_none (M / d) (proper_part M d order_a.positive fits.0 fits.1).0;
      from = f;
      to = g;
      compared = AreCompared.whole compares.first_power compares.second_power;
      printed = printed;
      conjugates = λ s t hs ht. conjugates_powers shape h a b f g s t (pos (M / d)) (pos (N / d)) pair_a pair_b compares.first_power compares.second_power hs ht printed.normal.conjugates;
      first_moves = order_moves_on shape a M d pair_a order_a fits.0 fits.1;
      second_moves = order_moves_on shape b N d pair_b order_b fits.0 fits.2;
    }
finite_printed shape a b M N ds i j h pair_a pair_b order_a order_b divide (FiniteTrials.go_on {d = d} {ds = rest} compares not later) =
    finite_printed shape a b M N rest i j h pair_a pair_b order_a order_b (λ e c. divide e (Contains-there d rest e c)) later

-- ---- infinite orders

-- quasinormal bases of a and b, each with a word that is no cycle word
record HaveInfinite (shape : Shape) (a b : List Row) (X Y : List Word) : Type 0 where
  first_least : IsQuasinormal shape a X
  second_least : IsQuasinormal shape b Y
  first : HasSemiNormal shape a X
  second : HasSemiNormal shape b Y
  x : Word
  y : Word
  first_word : IsInfiniteWord shape a X x
  second_word : IsInfiniteWord shape b Y y

-- a signed number from 1 on is not 0
pub signed_some : (sign : Sign) (k : ℕ) → 1 ≤ k → signed sign k ≢ pos 0
signed_some Plus k low e = absurd (omega (arith, ints, e))
signed_some Minus k low e = absurd (omega (arith, ints, e))

-- what the trial of a sign prints, by the powers of the infinite parts, the N-th powers of which are powers of a and b
found_printed : {shape : Shape} {a b : List Row} {X Y : List Word} → HaveInfinite shape a b X Y → (sign : Sign) (i j N : ℕ) → 1 ≤ i → 1 ≤ j → (f g h : List Row) → SignCompares shape a b X Y sign i j f g → IsPrinted shape f g h → IsCommonOrder shape a b X Y N → IsPrintedBy shape a b (pos (i * N)) (signed sign (j * N)) h
found_printed {shape} {a} {b} {X} {Y} bases sign i j N low_i low_j f g h compares printed order =
    let parts = compares.parts in
    let first = periodic_order_exists shape a X parts.a_periodic parts.a_infinite compares.has_parts.first in
    let second = periodic_order_exists shape b Y parts.b_periodic parts.b_infinite compares.has_parts.second in
    record {
      above = above_none (i * N) (one-le-mul low_i order.positive);
      from = f;
      to = g;
      compared = AreCompared.infinite sign i j N bases.first_least bases.second_least compares.has_parts compares.compares.first_power compares.compares.second_power order;
      printed = printed;
      conjugates = λ s t hs ht. conjugates_power shape h f g s t (pos N) compares.compares.first_power.pair compares.compares.second_power.pair printed.normal.conjugates
          (power_of_infinite bases.first parts.a_periodic parts.a_infinite compares.has_parts.first Plus i N (λ x m c cycle. dvd_trans m (first.1.holds m (x, c, cycle)) (order.holds first.0 (inl first.1))) f s compares.compares.first_power hs)
          (power_of_infinite bases.second parts.b_periodic parts.b_infinite compares.has_parts.second sign j N (λ y m c cycle. dvd_trans m (second.1.holds m (y, c, cycle)) (order.holds second.0 (inr second.1))) g t compares.compares.second_power ht);
      first_moves = infinite_moves_on bases.first bases.x bases.first_word (pos (i * N)) (signed_some Plus (i * N) (one-le-mul low_i order.positive));
      second_moves = infinite_moves_on bases.second bases.y bases.second_word (signed sign (j * N)) (signed_some sign (j * N) (one-le-mul low_j order.positive));
    }

-- so it is with the trial of a sign, if it is so with what comes later
trial_printed : {shape : Shape} {a b : List Row} {X Y : List Word} → HaveInfinite shape a b X Y → (sign : Sign) (m n : ℕ) → 1 ≤ m → 1 ≤ n → (later : PowerAnswer → Type 0) (i j : ℤ) (h : List Row) → (later (Powers i j h) → IsPrintedBy shape a b i j h) → SignTrial shape a b X Y sign m n later (Powers i j h) → IsPrintedBy shape a b i j h
trial_printed bases sign m n low_m low_n later i j h then (SignTrial.go_on compares not rest) = then rest
trial_printed bases sign m n low_m low_n later i j h then (SignTrial.found {f = f} {g = g} {N = N} compares printed order fits) = found_printed bases sign m n N low_m low_n f g h compares printed order

-- the numerator of a fraction is from 1 on where that of an equal one is
numerator_positive : (b a p q : ℕ) → 1 ≤ b → IsRatio b a p q → 1 ≤ p
numerator_positive b a zero q some ratio =
    let none : zero * a ≡ 0 = omega arith in
    absurd (omega (arith, none, ratio.equal, one-le-mul ratio.positive some))
numerator_positive b a (suc p) q some ratio = omega arith

-- and with a sign, if it is so with what comes later
sign_printed : {shape : Shape} {a b : List Row} {X Y : List Word} → HaveInfinite shape a b X Y → (sign : Sign) (M ahead behind over over_behind : ℕ) → 1 ≤ M → 1 ≤ over → (later : PowerAnswer → Type 0) (i j : ℤ) (h : List Row) → (later (Powers i j h) → IsPrintedBy shape a b i j h)
    → SignAnswers shape a b X Y sign M ahead behind over over_behind later (Powers i j h) → IsPrintedBy shape a b i j h
sign_printed bases sign M ahead behind over over_behind low some later i j h then (SignAnswers.tried {p = p} {q = q} same ratio trial) =
    trial_printed bases sign (p * M) (q * M) (one-le-mul (numerator_positive over ahead p q some ratio) low) (one-le-mul ratio.positive low) later i j h then trial
sign_printed bases sign M ahead behind over over_behind low some later i j h then (SignAnswers.left_out differ rest) = then rest

-- an answer with powers is another than that without
no_powers : (i j : ℤ) (h : List Row) → ◌≡◌ {A = PowerAnswer} (Powers i j h) NoPowers → ⊥
no_powers i j h e = cc

-- so it is with both signs
signs_printed : {shape : Shape} {a b : List Row} {X Y : List Word} → HaveInfinite shape a b X Y → (M A B C D : ℕ) → HasRates shape a b X Y M A B C D → (i j : ℤ) (h : List Row) → BothSigns shape a b X Y M A B C D (Powers i j h) → IsPrintedBy shape a b i j h
signs_printed bases M A B C D rates i j h signs =
    let low = rates.period.positive in
    let some_ahead = attractor_rate bases.second bases.y bases.second_word M C low (λ m period. rates.period.holds m (inr period)) rates.second_ahead in
    let some_behind = repeller_rate bases.second bases.y bases.second_word M D low (λ m period. rates.period.holds m (inr period)) rates.second_behind in
    sign_printed bases Plus M A B C D low some_ahead _ i j h (λ later. sign_printed bases Minus M A B D C low some_behind _ i j h (λ last. absurd (no_powers i j h last)) later) signs

-- ---- the rule

-- a word of each infinite part
have_infinite : (shape : Shape) (a b : List Row) (X Y : List Word) → IsPair shape a → IsPair shape b → IsQuasinormal shape a X → IsQuasinormal shape b Y → BothInfinite shape a b X Y → HaveInfinite shape a b X Y
have_infinite shape a b X Y pair_a pair_b first second both =
    let x = some_infinite shape a X both.first both.first_part both.first_some in
    let y = some_infinite shape b Y both.second both.second_part both.second_some in
    record {
      first_least = first;
      second_least = second;
      first = record { pair = pair_a; semi = first.semi_normal };
      second = record { pair = pair_b; semi = second.semi_normal };
      x = x.0;
      y = y.0;
      first_word = x.1;
      second_word = y.1;
    }

-- once both bases are at hand
answers_printed : (shape : Shape) (a b : List Row) (X Y : List Word) → IsPair shape a → IsPair shape b → IsQuasinormal shape a X → IsQuasinormal shape b Y → (i j : ℤ) (h : List Row) → Answers shape a b X Y (Powers i j h) → IsPrintedBy shape a b i j h
answers_printed shape a b X Y pair_a pair_b first second i j h (Answers.finite {order_a = M} {order_b = N} {divisors = ds} both fit ascending tried trials) =
    finite_printed shape a b M N ds i j h pair_a pair_b both.first_order both.second_order (λ d c. let t = (tried d).0 c in (t.not_one, t.first, t.second)) trials
answers_printed shape a b X Y pair_a pair_b first second i j h (Answers.infinite {M = M} {ahead_a = A} {behind_a = B} {ahead_b = C} {behind_b = D} both rates fit signs) =
    signs_printed (have_infinite shape a b X Y pair_a pair_b first second both) M A B C D rates i j h signs

-- what the power rule prints conjugates the powers, in canonical form
pub rule_printed : (shape : Shape) (a b : List Row) (budget : ℕ) (i j : ℤ) (h : List Row) → IsPair shape a → IsPair shape b → PowerRule shape a b budget (Powers i j h) → IsPrintedBy shape a b i j h
rule_printed shape a b budget i j h pair_a pair_b (PowerRule.answers {X = X} {Y = Y} first second small also answered) = answers_printed shape a b X Y pair_a pair_b first second i j h answered

-- so the elements are power conjugate by the exponents
pub printed_power_conjugate : (shape : Shape) (a b : List Row) (i j : ℤ) (h : List Row) → IsPair shape a → IsPair shape b → IsPrintedBy shape a b i j h → ArePowerConjugate shape a b i j
printed_power_conjugate shape a b i j h pair_a pair_b printed =
    let s = power_exists shape a i pair_a in
    let t = power_exists shape b j pair_b in
    record {
      first = s.0;
      second = t.0;
      first_power = s.1;
      second_power = t.1;
      first_moves = printed.first_moves s.0 s.1;
      second_moves = printed.second_moves t.0 t.1;
      conjugate = record { by = h; conjugates = printed.conjugates s.0 t.0 s.1 t.1 };
    }
