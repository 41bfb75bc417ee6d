-- The rates of two elements of infinite order are from 1 on, and so are the numbers of their ratios.
use Rattle.std.proofs.Common.{◌≡◌, ℕ, ◌≤◌, ◌<◌, ◌^◌, arith, inl, inr, refl, subst, sym}
use Rattle.std.proofs.Math.Nat.{dvd-mul_right, mul_comm}
use Rattle.std.proofs.lemmas.Nat.Gcd.{le_of_dvd}
use Rattle.ht_word.specs.declared.shape.Shape.{Shape}
use Rattle.ht_word.specs.declared.word.Word.{Word}
use Rattle.ht_num.specs.Numbers.{IsRatio}
use Rattle.ht_num.proofs.FractionLaws.{factors_positive, multiples_of_ratio}
use Rattle.ht_pair.specs.Atoms.{IsInfiniteWord}
use Rattle.ht_pair.specs.PowerRule.{BothInfinite}
use Rattle.ht_pair.specs.PowerSizes.{Sign, Plus, Minus}
use Rattle.ht_types.specs.TypedElements.{TypedValue}
use Rattle.ht_types.proofs.TurnLaws.{HasSemiNormal}
use Rattle.ht_laws.proofs.PartEndLaws.{some_infinite, attractor_rate, repeller_rate}
use Rattle.ht_power.specs.declared.rates.Rates.{Rates}
use Rattle.ht_power.specs.RatesTold.{AreRates, all_rates}
use Rattle.ht_power.specs.SignsTold.{SomeRates, over_in}
use Rattle.ht_power.proofs.PeriodLaws.{Typed}
use Rattle.ht_power.proofs.WideNumbers.{narrow_at}

-- p / q, the lowest form of b / a, has numbers from 1 on that are no more
pub ratio_bounds : (b a p q : ℕ) → 1 ≤ a → 1 ≤ b → IsRatio b a p q → (1 ≤ p) × (p ≤ b) × (q ≤ a)
ratio_bounds b a p q low some ratio =
    let whole = multiples_of_ratio b a p q b a low some low ratio (mul_comm b a) in
    let positive = factors_positive p whole.0 (subst (λ (n : ℕ). 1 ≤ n) whole.1 some) in (
      positive.0,
      subst (λ (n : ℕ). p ≤ n) (sym whole.1) (le_of_dvd (subst (λ (n : ℕ). 1 ≤ n) whole.1 some) (dvd-mul_right p whole.0)),
      subst (λ (n : ℕ). q ≤ n) (sym whole.2) (le_of_dvd (subst (λ (n : ℕ). 1 ≤ n) whole.2 low) (dvd-mul_right q whole.0)),
    )

-- the period isn't wide, where no rate is
pub narrow_period : {f g : TypedValue} {rates : Rates} → AreRates f g rates → rates.period < 2 ^ 127
narrow_period {rates = rates} are = narrow_at (all_rates rates) 0 are.small (omega arith)

-- the quasinormal basis of an element is semi-normal
semi_in : {shape : Shape} (t : TypedValue) → t.element.shape ≡ shape → Typed t → HasSemiNormal shape t.element.rows t.quasi.basis.words
semi_in t same typed = subst (λ (s : Shape). HasSemiNormal s t.element.rows t.quasi.basis.words) same (record { pair = typed.canonical.pair; semi = typed.quasinormal.least.semi_normal })

-- no infinite part of the two elements is empty
abbrev pub AreInfinite : TypedValue → TypedValue → Type 0
AreInfinite f g = BothInfinite f.element.shape f.element.rows g.element.rows f.quasi.basis.words g.quasi.basis.words

module _ {f g : TypedValue} {rates : Rates} (typed_f : Typed f) (typed_g : Typed g) (same : g.element.shape ≡ f.element.shape) (are : AreRates f g rates) (infinite : AreInfinite f g) where
  -- the first's are, and none is wide
  pub some_rates : SomeRates rates
  some_rates =
      let x = some_infinite f.element.shape f.element.rows f.quasi.basis.words infinite.first infinite.first_part infinite.first_some in
      let base = semi_in f refl typed_f in
      record {
        small = are.small;
        ahead = attractor_rate base x.0 x.1 rates.period rates.first_ahead are.have.period.positive (λ m period. are.have.period.holds m (inl period)) are.have.first_ahead;
        behind = repeller_rate base x.0 x.1 rates.period rates.first_behind are.have.period.positive (λ m period. are.have.period.holds m (inl period)) are.have.first_behind;
      }

  -- so is that of the second that is tried with the sign
  pub some_over : (sign : Sign) → 1 ≤ over_in sign rates
  some_over sign =
      let y = some_infinite f.element.shape g.element.rows g.quasi.basis.words infinite.second infinite.second_part infinite.second_some in
      tell (semi_in g same typed_g) y.0 y.1 sign
    where
      tell : HasSemiNormal f.element.shape g.element.rows g.quasi.basis.words → (y : Word)
          → IsInfiniteWord f.element.shape g.element.rows g.quasi.basis.words y → (sign : Sign) → 1 ≤ over_in sign rates
      tell base y word Plus = attractor_rate base y word rates.period rates.second_ahead are.have.period.positive (λ m period. are.have.period.holds m (inr period)) are.have.second_ahead
      tell base y word Minus = repeller_rate base y word rates.period rates.second_behind are.have.period.positive (λ m period. are.have.period.holds m (inr period)) are.have.second_behind

  -- the rate that is tried with the sign isn't wide
  narrow_over : (sign : Sign) → over_in sign rates < 2 ^ 127
  narrow_over Plus = narrow_at (all_rates rates) 3 are.small (omega arith)
  narrow_over Minus = narrow_at (all_rates rates) 4 are.small (omega arith)

  -- nor is a number of the ratio; it is from 1 on
  pub narrow_ratio : (sign : Sign) (p q : ℕ) → IsRatio (over_in sign rates) rates.first_ahead p q → (1 ≤ p) × (p < 2 ^ 127) × (q < 2 ^ 127)
  narrow_ratio sign p q ratio =
      let bounds = ratio_bounds (over_in sign rates) rates.first_ahead p q some_rates.ahead (some_over sign) ratio in
      let first = narrow_over sign in
      let second : rates.first_ahead < 2 ^ 127 = narrow_at (all_rates rates) 1 are.small (omega arith) in
      (bounds.0, omega (arith, bounds.1, first), omega (arith, bounds.2, second))
