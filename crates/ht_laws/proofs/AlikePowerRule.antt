-- The power rule answers alike for pairs that move words alike.
use Rattle.std.proofs.Common.{◌≡◌, ℕ, ◌*◌, ◌/◌, ◌⊎◌, inl, inr, List, [], ◌∷◌, length}
use Rattle.std.specs.List.{AllZip}
use Rattle.ht_word.specs.declared.shape.Shape.{Shape}
use Rattle.ht_word.specs.declared.word.Word.{Word}
use Rattle.ht_num.proofs.NumberLaws.{least_multiple_same}
use Rattle.ht_pair.specs.Actions.{Alike}
use Rattle.ht_pair.specs.FiniteTrials.{IsTried, FiniteTrials}
use Rattle.ht_pair.specs.Kinds.{IsAttractor, IsRepeller}
use Rattle.ht_pair.specs.Orders.{IsPeriodicOrder}
use Rattle.ht_pair.specs.Pairs.{IsPair}
use Rattle.ht_pair.specs.Parts.{HasParts}
use Rattle.ht_pair.specs.PowerRule.{BothFinite, BothInfinite, OneInfinite, Answers, PowerRule}
use Rattle.ht_pair.specs.PowerSizes.{Sign, Plus, Minus}
use Rattle.ht_pair.specs.PowerTrials.{PowerAnswer, NoPowers}
use Rattle.ht_pair.specs.Rates.{IsPeriod, IsRateSum, HasRates}
use Rattle.ht_pair.specs.SemiNormal.{IsQuasinormal}
use Rattle.ht_pair.specs.SignTrials.{BothParts, HasBothParts, SignCompares, IsCommonOrder, SignTrial, SignAnswers, BothSigns}
use Rattle.ht_pair.specs.declared.row.Row.{Row}
use Rattle.ht_pair.proofs.AlikePowerLaws.{quasinormal_alike}
use Rattle.ht_laws.proofs.AlikeTrialLaws.{trial_large_alike, compares_alike}
use Rattle.ht_laws.proofs.CarriedLaws.{AreAlike, other_way, with_itself, cycle_alike, attractor_alike, repeller_alike, selected_alike, infinite_alike, order_alike, periodic_order_alike}
use Rattle.ht_laws.proofs.ElementLaws.{parts_alike}

-- ---- rates

-- alike pairs have the same periods
period_alike : (shape : Shape) (p q : List Row) → AreAlike shape p q → (X : List Word) (m : ℕ) → IsPeriod shape p X m → IsPeriod shape q X m
period_alike shape p q h X m (x, by, c, either) = (x, by, c, elim either [ inl a ↦ inl (attractor_alike shape p q h x m by a) | inr r ↦ inr (repeller_alike shape p q h x m by r) ])

-- words of two kinds that are one, have one sum of rates
rate_sum_same : (IsKind Other : Word → ℕ → List ℕ → Type 0) → ((x : Word) (m : ℕ) (by : List ℕ) → IsKind x m by → Other x m by) → ((x : Word) (m : ℕ) (by : List ℕ) → Other x m by → IsKind x m by) → (X : List Word) (M total : ℕ) → IsRateSum IsKind X M total → IsRateSum Other X M total
rate_sum_same IsKind Other to from X M total h = record {
  words = h.words;
  rates = h.rates;
  selected = selected_alike (λ x. (m : ℕ) × (by : List ℕ) × IsKind x m by) (λ x. (m : ℕ) × (by : List ℕ) × Other x m by) (λ x (m, by, kind). (m, by, to x m by kind)) (λ x (m, by, kind). (m, by, from x m by kind)) X h.words h.selected;
  rated = rated h.words h.rates h.rated;
  total_is = h.total_is;
}
  where
    rated : (words : List Word) (rates : List ℕ) → AllZip (λ x rate. (m : ℕ) × (by : List ℕ) × IsKind x m by × (rate ≡ length by * M / m)) words rates → AllZip (λ x rate. (m : ℕ) × (by : List ℕ) × Other x m by × (rate ≡ length by * M / m)) words rates
    rated [] [] zip = zip
    rated [] (r ∷ rates) zip = absurd zip
    rated (x ∷ words) [] zip = absurd zip
    rated (x ∷ words) (r ∷ rates) zip = ((zip.0.0, zip.0.1, to x zip.0.0 zip.0.1 zip.0.2, zip.0.3), rated words rates zip.1)

-- alike pairs have the same rates at attractors
attractor_rates_alike : (shape : Shape) (p q : List Row) → AreAlike shape p q → (X : List Word) (M total : ℕ) → IsRateSum (IsAttractor shape p) X M total → IsRateSum (IsAttractor shape q) X M total
attractor_rates_alike shape p q h = rate_sum_same (IsAttractor shape p) (IsAttractor shape q) (attractor_alike shape p q h) (attractor_alike shape q p (other_way shape p q h))

-- and at repellers
repeller_rates_alike : (shape : Shape) (p q : List Row) → AreAlike shape p q → (X : List Word) (M total : ℕ) → IsRateSum (IsRepeller shape p) X M total → IsRateSum (IsRepeller shape q) X M total
repeller_rates_alike shape p q h = rate_sum_same (IsRepeller shape p) (IsRepeller shape q) (repeller_alike shape p q h) (repeller_alike shape q p (other_way shape p q h))

-- ---- two pairs, each alike another

-- a moves words as c does, and b as d
record BothAlike (shape : Shape) (a b c d : List Row) : Type 0 where
  first : AreAlike shape a c
  second : AreAlike shape b d

-- the other way round
both_other_way : (shape : Shape) (a b c d : List Row) → BothAlike shape a b c d → BothAlike shape c d a b
both_other_way shape a b c d h = record { first = other_way shape a c h.first; second = other_way shape b d h.second }

-- a number that tells of the first or of the second
either_alike : (P Q R S : Type 0) → (P → R) → (Q → S) → P ⊎ Q → R ⊎ S
either_alike P Q R S first second either = elim either [ inl p ↦ inl (first p) | inr q ↦ inr (second q) ]

-- the common period and the four sums are the same
rates_alike : (shape : Shape) (a b c d : List Row) → BothAlike shape a b c d → (X Y : List Word) (M A B C D : ℕ) → HasRates shape a b X Y M A B C D → HasRates shape c d X Y M A B C D
rates_alike shape a b c d h X Y M A B C D rates = record {
  period = least_multiple_same (λ m. (
    either_alike (IsPeriod shape a X m) (IsPeriod shape b Y m) (IsPeriod shape c X m) (IsPeriod shape d Y m) (period_alike shape a c h.first X m) (period_alike shape b d h.second Y m),
    either_alike (IsPeriod shape c X m) (IsPeriod shape d Y m) (IsPeriod shape a X m) (IsPeriod shape b Y m) (period_alike shape c a (other_way shape a c h.first) X m) (period_alike shape d b (other_way shape b d h.second) Y m),
  )) rates.period;
  first_ahead = attractor_rates_alike shape a c h.first X M A rates.first_ahead;
  first_behind = repeller_rates_alike shape a c h.first X M B rates.first_behind;
  second_ahead = attractor_rates_alike shape b d h.second Y M C rates.second_ahead;
  second_behind = repeller_rates_alike shape b d h.second Y M D rates.second_behind;
}

-- the common order is the same
common_order_alike : (shape : Shape) (a b c d : List Row) → BothAlike shape a b c d → (X Y : List Word) (N : ℕ) → IsCommonOrder shape a b X Y N → IsCommonOrder shape c d X Y N
common_order_alike shape a b c d h X Y N = least_multiple_same (λ k. (
  either_alike (IsPeriodicOrder shape a X k) (IsPeriodicOrder shape b Y k) (IsPeriodicOrder shape c X k) (IsPeriodicOrder shape d Y k) (periodic_order_alike shape a c h.first X k) (periodic_order_alike shape b d h.second Y k),
  either_alike (IsPeriodicOrder shape c X k) (IsPeriodicOrder shape d Y k) (IsPeriodicOrder shape a X k) (IsPeriodicOrder shape b Y k) (periodic_order_alike shape c a (other_way shape a c h.first) X k) (periodic_order_alike shape d b (other_way shape b d h.second) Y k),
))

-- ---- the trials of divisors

-- the divisors that are tried are the same
tried_alike : (shape : Shape) (a b c d : List Row) → BothAlike shape a b c d → (X Y : List Word) (M N k : ℕ) → IsTried shape a b X Y M N k → IsTried shape c d X Y M N k
tried_alike shape a b c d h X Y M N k t = record {
  not_one = t.not_one;
  first = t.first;
  second = t.second;
  some_cycle = (t.some_cycle.0, t.some_cycle.1, t.some_cycle.2, cycle_alike shape a c h.first t.some_cycle.0 t.some_cycle.1 t.some_cycle.3, t.some_cycle.4);
  some_other = (t.some_other.0, t.some_other.1, t.some_other.2, cycle_alike shape b d h.second t.some_other.0 t.some_other.1 t.some_other.3, t.some_other.4);
}

-- and so are the answers of their trials
finite_alike : (shape : Shape) (a b c d : List Row) → BothAlike shape a b c d → (M N : ℕ) (ds : List ℕ) (answer : PowerAnswer) → FiniteTrials shape a b M N ds answer → FiniteTrials shape c d M N ds answer
finite_alike shape a b c d h M N [] answer FiniteTrials.none_left = FiniteTrials.none_left
finite_alike shape a b c d h M N (k ∷ ds) answer (FiniteTrials.large {rows = rows} {letters = letters} large) = FiniteTrials.large (trial_large_alike shape a b c d h.first h.second Plus (M / k) (N / k) rows letters large)
finite_alike shape a b c d h M N (k ∷ ds) answer (FiniteTrials.found {f = f} {g = g} compares printed) = FiniteTrials.found (compares_alike shape a b c d h.first h.second Plus (M / k) (N / k) f g compares) printed
finite_alike shape a b c d h M N (k ∷ ds) answer (FiniteTrials.go_on {f = f} {g = g} compares not rest) = FiniteTrials.go_on (compares_alike shape a b c d h.first h.second Plus (M / k) (N / k) f g compares) not (finite_alike shape a b c d h M N ds answer rest)

-- ---- the trials of signs

-- the parts are the same
both_parts_alike : (shape : Shape) (a b c d : List Row) → BothAlike shape a b c d → (X Y : List Word) (parts : BothParts) → HasBothParts shape a b X Y parts → HasBothParts shape c d X Y parts
both_parts_alike shape a b c d h X Y parts has = record { first = same_parts a c X parts.a_periodic parts.a_infinite h.first has.first; second = same_parts b d Y parts.b_periodic parts.b_infinite h.second has.second }
  where
    same_parts : (p q : List Row) (X : List Word) (s t : List Row) → AreAlike shape p q → HasParts shape p X s t → HasParts shape q X s t
    same_parts p q X s t pairs parts = parts_alike shape p q s t s t pairs (with_itself shape s parts.on_periodic.pair) (with_itself shape t parts.on_infinite.pair) X parts

-- the powers that a sign compares are the same
sign_compares_alike : (shape : Shape) (a b c d : List Row) → BothAlike shape a b c d → (X Y : List Word) (sign : Sign) (i j : ℕ) (f g : List Row) → SignCompares shape a b X Y sign i j f g → SignCompares shape c d X Y sign i j f g
sign_compares_alike shape a b c d h X Y sign i j f g t = record {
  fit = t.fit;
  parts = t.parts;
  has_parts = both_parts_alike shape a b c d h X Y t.parts t.has_parts;
  parts_small = t.parts_small;
  compares = t.compares;
}

-- so are the answers of its trial, where those that come later are
trial_alike : (shape : Shape) (a b c d : List Row) → BothAlike shape a b c d → (X Y : List Word) (sign : Sign) (i j : ℕ) (later others : PowerAnswer → Type 0) → ((x : PowerAnswer) → later x → others x) → (answer : PowerAnswer) → SignTrial shape a b X Y sign i j later answer → SignTrial shape c d X Y sign i j others answer
trial_alike shape a b c d h X Y sign i j later others then answer (SignTrial.wide wide) = SignTrial.wide wide
trial_alike shape a b c d h X Y sign i j later others then answer (SignTrial.parts_large {parts = parts} fit has large) = SignTrial.parts_large fit (both_parts_alike shape a b c d h X Y parts has) large
trial_alike shape a b c d h X Y sign i j later others then answer (SignTrial.powers_large {parts = parts} fit has small large) = SignTrial.powers_large fit (both_parts_alike shape a b c d h X Y parts has) small large
trial_alike shape a b c d h X Y sign i j later others then answer (SignTrial.go_on {f = f} {g = g} compares not rest) = SignTrial.go_on (sign_compares_alike shape a b c d h X Y sign i j f g compares) not (then answer rest)
trial_alike shape a b c d h X Y sign i j later others then answer (SignTrial.found_wide {f = f} {g = g} {N = N} compares conjugate order wide) =
    SignTrial.found_wide (sign_compares_alike shape a b c d h X Y sign i j f g compares) conjugate (common_order_alike shape a b c d h X Y N order) wide
trial_alike shape a b c d h X Y sign i j later others then answer (SignTrial.found {f = f} {g = g} {N = N} compares printed order fits) =
    SignTrial.found (sign_compares_alike shape a b c d h X Y sign i j f g compares) printed (common_order_alike shape a b c d h X Y N order) fits

-- the answers of a sign
sign_alike : (shape : Shape) (a b c d : List Row) → BothAlike shape a b c d → (X Y : List Word) (sign : Sign) (M ahead behind over over_behind : ℕ) (later others : PowerAnswer → Type 0) → ((x : PowerAnswer) → later x → others x)
    → (answer : PowerAnswer) → SignAnswers shape a b X Y sign M ahead behind over over_behind later answer → SignAnswers shape c d X Y sign M ahead behind over over_behind others answer
sign_alike shape a b c d h X Y sign M ahead behind over over_behind later others then answer (SignAnswers.tried {p = p} {q = q} same ratio trial) = SignAnswers.tried same ratio (trial_alike shape a b c d h X Y sign (p * M) (q * M) later others then answer trial)
sign_alike shape a b c d h X Y sign M ahead behind over over_behind later others then answer (SignAnswers.left_out differ rest) = SignAnswers.left_out differ (then answer rest)

-- and of both
signs_alike : (shape : Shape) (a b c d : List Row) → BothAlike shape a b c d → (X Y : List Word) (M A B C D : ℕ) (answer : PowerAnswer) → BothSigns shape a b X Y M A B C D answer → BothSigns shape c d X Y M A B C D answer
signs_alike shape a b c d h X Y M A B C D = sign_alike shape a b c d h X Y Plus M A B C D
    (SignAnswers shape a b X Y Minus M A B D C (λ last. last ≡ NoPowers)) (SignAnswers shape c d X Y Minus M A B D C (λ last. last ≡ NoPowers))
    (sign_alike shape a b c d h X Y Minus M A B D C (λ last. last ≡ NoPowers) (λ last. last ≡ NoPowers) (λ x last. last))

-- ---- the rule

-- both infinite parts are empty together, and the orders are the same
both_finite_alike : (shape : Shape) (a b c d : List Row) → BothAlike shape a b c d → (X Y : List Word) (M N : ℕ) → BothFinite shape a b X Y M N → BothFinite shape c d X Y M N
both_finite_alike shape a b c d h X Y M N both = record {
  first_empty = infinite_alike shape a c h.first X [] both.first_empty;
  second_empty = infinite_alike shape b d h.second Y [] both.second_empty;
  first_order = order_alike shape a c h.first M both.first_order;
  second_order = order_alike shape b d h.second N both.second_order;
}

-- neither is empty together
both_infinite_alike : (shape : Shape) (a b c d : List Row) → BothAlike shape a b c d → (X Y : List Word) → BothInfinite shape a b X Y → BothInfinite shape c d X Y
both_infinite_alike shape a b c d h X Y both = record {
  first = both.first;
  second = both.second;
  first_part = infinite_alike shape a c h.first X both.first both.first_part;
  second_part = infinite_alike shape b d h.second Y both.second both.second_part;
  first_some = both.first_some;
  second_some = both.second_some;
}

-- the answers with both bases at hand are the same
answers_alike : (shape : Shape) (a b c d : List Row) → BothAlike shape a b c d → (X Y : List Word) (answer : PowerAnswer) → Answers shape a b X Y answer → Answers shape c d X Y answer
answers_alike shape a b c d h X Y answer (Answers.one_infinite (OneInfinite.first_infinite {I = I} part some none)) = Answers.one_infinite (OneInfinite.first_infinite (infinite_alike shape a c h.first X I part) some (infinite_alike shape b d h.second Y [] none))
answers_alike shape a b c d h X Y answer (Answers.one_infinite (OneInfinite.second_infinite {J = J} none part some)) = Answers.one_infinite (OneInfinite.second_infinite (infinite_alike shape a c h.first X [] none) (infinite_alike shape b d h.second Y J part) some)
answers_alike shape a b c d h X Y answer (Answers.wide_order {order_a = M} {order_b = N} both wide) = Answers.wide_order (both_finite_alike shape a b c d h X Y M N both) wide
answers_alike shape a b c d h X Y answer (Answers.finite {order_a = M} {order_b = N} {divisors = ds} both fit ascending tried trials) =
    let back = both_other_way shape a b c d h in
    Answers.finite (both_finite_alike shape a b c d h X Y M N both) fit ascending (λ k. ((λ e. tried_alike shape a b c d h X Y M N k ((tried k).0 e)), (λ t. (tried k).1 (tried_alike shape c d a b back X Y M N k t)))) (finite_alike shape a b c d h M N ds answer trials)
answers_alike shape a b c d h X Y answer (Answers.wide_rates {M = M} {ahead_a = A} {behind_a = B} {ahead_b = C} {behind_b = D} both rates wide) = Answers.wide_rates (both_infinite_alike shape a b c d h X Y both) (rates_alike shape a b c d h X Y M A B C D rates) wide
answers_alike shape a b c d h X Y answer (Answers.infinite {M = M} {ahead_a = A} {behind_a = B} {ahead_b = C} {behind_b = D} both rates fit signs) =
    Answers.infinite (both_infinite_alike shape a b c d h X Y both) (rates_alike shape a b c d h X Y M A B C D rates) fit (signs_alike shape a b c d h X Y M A B C D answer signs)

-- the quasinormal basis is the same
quasinormal_there : (shape : Shape) (p q : List Row) → AreAlike shape p q → (X : List Word) → IsQuasinormal shape p X → IsQuasinormal shape q X
quasinormal_there shape p q h = quasinormal_alike shape p q h.first h.second h.alike

-- the power rule answers alike for pairs that move words alike
pub rule_alike : (shape : Shape) (a b c d : List Row) (budget : ℕ) (answer : PowerAnswer) → IsPair shape a → IsPair shape b → IsPair shape c → IsPair shape d → Alike shape a c → Alike shape b d → PowerRule shape a b budget answer → PowerRule shape c d budget answer
rule_alike shape a b c d budget answer pair_a pair_b pair_c pair_d first second rule = by answer rule
  where
    h : BothAlike shape a b c d
    h = record { first = record { first = pair_a; second = pair_c; alike = first }; second = record { first = pair_b; second = pair_d; alike = second } }

    by : (answer : PowerAnswer) → PowerRule shape a b budget answer → PowerRule shape c d budget answer
    by answer (PowerRule.first_past {X = X} q past) = PowerRule.first_past (quasinormal_there shape a c h.first X q) past
    by answer (PowerRule.second_past {X = X} {Y = Y} q r small past) = PowerRule.second_past (quasinormal_there shape a c h.first X q) (quasinormal_there shape b d h.second Y r) small past
    by answer (PowerRule.answers {X = X} {Y = Y} q r small also answered) = PowerRule.answers (quasinormal_there shape a c h.first X q) (quasinormal_there shape b d h.second Y r) small also (answers_alike shape a b c d h X Y answer answered)
