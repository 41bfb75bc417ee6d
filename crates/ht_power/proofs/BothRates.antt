-- The rates of two elements, in their common period.
use Rattle.std.proofs.Common.{◌≡◌, ℕ, ◌⊎◌, inl, inr, [], ◌∷◌, refl, sym, subst}
use Rattle.std.specs.Int.{◌∣◌}
use Rattle.std.proofs.Math.Nat.{one-dvd}
use Rattle.std.proofs.lemmas.Nat.Gcd.{dvd_trans}
use Rattle.ht_word.specs.declared.shape.Shape.{Shape}
use Rattle.ht_num.specs.Numbers.{IsSomeWide, IsWide}
use Rattle.ht_num.proofs.NumberLaws.{least_same}
use Rattle.ht_pair.specs.Kinds.{IsAttractor, IsRepeller}
use Rattle.ht_pair.specs.Rates.{IsPeriod, IsRateSum}
use Rattle.ht_types.specs.declared.direction.Direction.{Direction}
use Rattle.ht_types.specs.declared.direction.Direction.TheVariants.{Ahead, Behind}
use Rattle.ht_types.specs.TypedElements.{TypedValue}
use Rattle.ht_power.specs.RatesTold.{AreWideRates, HaveRates, IsJoined, IsRateIn}
use Rattle.ht_power.proofs.PeriodLaws.{Typed, least_divides}
use Rattle.ht_power.proofs.RateSums.{rate_exists}
use Rattle.ht_power.proofs.WideNumbers.{some_wide}

-- a period of an end of t
abbrev Period : TypedValue → ℕ → Type 0
Period t m = IsPeriod t.element.shape t.element.rows t.quasi.basis.words m

-- M is the common period of two elements of one shape
pub record HaveCommon (f g : TypedValue) (M : ℕ) : Type 0 where
  pub same : g.element.shape ≡ f.element.shape
  pub first_typed : Typed f
  pub second_typed : Typed g
  pub period : ℕ
  pub first : IsJoined f f.quasi.basis.words 1 period
  pub second : IsJoined g g.quasi.basis.words period M

-- it is a multiple of each period of the first
pub common_first : {f g : TypedValue} {M : ℕ} → HaveCommon f g M → (m : ℕ) → Period f m → m ∣ M
common_first h m p = dvd_trans m (h.first.holds m (inr p)) (h.second.holds h.period (inl refl))

-- and of each of the second
pub common_second : {f g : TypedValue} {M : ℕ} → HaveCommon f g M → (m : ℕ) → Period g m → m ∣ M
common_second h m p = h.second.holds m (inr p)

-- the rates
pub have_rates : {f g : TypedValue} {M : ℕ} → HaveCommon f g M → (a b c d : ℕ) → IsRateIn Ahead f M a → IsRateIn Behind f M b → IsRateIn Ahead g M c
    → IsRateIn Behind g M d → HaveRates f g M a b c d
have_rates {f} {g} {M} h a b c d ahead behind other_ahead other_behind = record {
  period = least_same (λ j. (m : ℕ) → (m ≡ h.period) ⊎ Period g m → m ∣ j) (λ j. (m : ℕ) → Period f m ⊎ IsPeriod f.element.shape g.element.rows g.quasi.basis.words m → m ∣ j)
      (λ j each m either. elim either [
        | inl p ↦ dvd_trans m (h.first.holds m (inr p)) (each h.period (inl refl))
        | inr q ↦ each m (inr (subst (λ (s : Shape). IsPeriod s g.element.rows g.quasi.basis.words m) (sym h.same) q))
      ])
      (λ j each m either. elim either [
        | inl e ↦ subst (λ n. n ∣ j) (sym e) (least_divides h.first j (λ n two. elim two [
          | inl one ↦ subst (λ i. i ∣ j) (sym one) (one-dvd j)
          | inr p ↦ each n (inl p)
        ]))
        | inr q ↦ each m (inr (subst (λ (s : Shape). IsPeriod s g.element.rows g.quasi.basis.words m) h.same q))
      ])
      M h.second;
  first_ahead = ahead;
  first_behind = behind;
  second_ahead = subst (λ (s : Shape). IsRateSum (IsAttractor s g.element.rows) g.quasi.basis.words M c) h.same other_ahead;
  second_behind = subst (λ (s : Shape). IsRateSum (IsRepeller s g.element.rows) g.quasi.basis.words M d) h.same other_behind;
}

-- ---- where one of the numbers is wide

-- t has a rate in the direction
abbrev Rate : Direction → TypedValue → ℕ → Type 0
Rate direction t M = (total : ℕ) × IsRateIn direction t M total

-- which is wide
abbrev WideRate : Direction → TypedValue → ℕ → Type 0
WideRate direction t M = (total : ℕ) × IsRateIn direction t M total × IsWide total

-- some of the numbers is
wide_rates : {f g : TypedValue} {M : ℕ} → HaveCommon f g M → (a : Rate Ahead f M) (b : Rate Behind f M) (c : Rate Ahead g M) (d : Rate Behind g M)
    → IsSomeWide (M ∷ a.0 ∷ b.0 ∷ c.0 ∷ d.0 ∷ []) → AreWideRates f g
wide_rates {M = M} h a b c d wide = record {
  period = M;
  first_ahead = a.0;
  first_behind = b.0;
  second_ahead = c.0;
  second_behind = d.0;
  have = have_rates h a.0 b.0 c.0 d.0 a.1 b.1 c.1 d.1;
  wide = wide;
}

module _ {f g : TypedValue} {M : ℕ} (h : HaveCommon f g M) where
  -- the rates that there are
  first_ahead : Rate Ahead f M
  first_ahead = rate_exists Ahead f h.first_typed M

  first_behind : Rate Behind f M
  first_behind = rate_exists Behind f h.first_typed M

  second_ahead : Rate Ahead g M
  second_ahead = rate_exists Ahead g h.second_typed M

  second_behind : Rate Behind g M
  second_behind = rate_exists Behind g h.second_typed M

  -- the period is wide
  pub wide_period : IsWide M → AreWideRates f g
  wide_period wide = wide_rates h first_ahead first_behind second_ahead second_behind (some_wide [] (first_ahead.0 ∷ first_behind.0 ∷ second_ahead.0 ∷ second_behind.0 ∷ []) M wide)

  -- the rate of the first ahead is, or behind, or that of the second
  pub wide_first_ahead : WideRate Ahead f M → AreWideRates f g
  wide_first_ahead (k, is, wide) = wide_rates h (k, is) first_behind second_ahead second_behind (some_wide (M ∷ []) (first_behind.0 ∷ second_ahead.0 ∷ second_behind.0 ∷ []) k wide)

  pub wide_first_behind : WideRate Behind f M → AreWideRates f g
  wide_first_behind (k, is, wide) = wide_rates h first_ahead (k, is) second_ahead second_behind (some_wide (M ∷ first_ahead.0 ∷ []) (second_ahead.0 ∷ second_behind.0 ∷ []) k wide)

  pub wide_second_ahead : WideRate Ahead g M → AreWideRates f g
  wide_second_ahead (k, is, wide) = wide_rates h first_ahead first_behind (k, is) second_behind (some_wide (M ∷ first_ahead.0 ∷ first_behind.0 ∷ []) (second_behind.0 ∷ []) k wide)

  pub wide_second_behind : WideRate Behind g M → AreWideRates f g
  wide_second_behind (k, is, wide) = wide_rates h first_ahead first_behind second_ahead (k, is) (some_wide (M ∷ first_ahead.0 ∷ first_behind.0 ∷ second_ahead.0 ∷ []) [] k wide)
