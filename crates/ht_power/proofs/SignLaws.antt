-- What is told of one sign, as an answer of the power rule.
use Rattle.std.proofs.Common.{◌≡◌, ℕ, ◌*◌, List, [], ◌∷◌, Option, None, Some, Result, Ok, Err, refl, sym, ap, ◌∙◌, subst, subst₂}
use Rattle.ht_word.specs.declared.shape.Shape.{Shape}
use Rattle.ht_word.specs.declared.word.Word.{Word}
use Rattle.ht_num.specs.Numbers.{IsRatio, IsSomeWide}
use Rattle.ht_pair.specs.declared.row.Row.{Row}
use Rattle.ht_pair.specs.declared.verdict.PowerVerdict.{PowerVerdict}
use Rattle.ht_pair.specs.PowerRule.{Answers}
use Rattle.ht_pair.specs.PowerSizes.{Sign, Plus, Minus}
use Rattle.ht_pair.specs.PowerTrials.{PowerAnswer, NoPowers, TooWide}
use Rattle.ht_pair.specs.PowerVerdicts.{rule_answer}
use Rattle.ht_pair.specs.SignTrials.{SignAnswers, SignTrial}
use Rattle.ht_types.specs.TypedElements.{TypedValue}
use Rattle.ht_power.specs.declared.fault.PowerFault.{PowerFault}
use Rattle.ht_power.specs.declared.fault.PowerFault.TheVariants as fault
use Rattle.ht_power.specs.declared.rates.Rates.{Rates}
use Rattle.ht_power.specs.RatesTold.{AreRates, AreWideRates}
use Rattle.ht_power.specs.SignsTold.{IsPassedOver, Never, SignOf, TellsBy, TellsSign, TellsTried, over_in, over_behind_in}
use Rattle.ht_power.specs.Told.{AnswersOf, Tells}
use Rattle.ht_power.proofs.PositiveRates.{AreInfinite}

-- ---- what comes later

module _ {shape : Shape} {a b : List Row} {X Y : List Word} {later after : PowerAnswer → Type 0} (leads : (answer : PowerAnswer) → later answer → after answer) where
  -- a trial answers still, where each answer that comes later does
  trial_later : (sign : Sign) (i j : ℕ) (answer : PowerAnswer) → SignTrial shape a b X Y sign i j later answer
      → SignTrial shape a b X Y sign i j after answer
  trial_later sign i j answer (SignTrial.wide wide) = SignTrial.wide wide
  trial_later sign i j answer (SignTrial.parts_large fit parts large) = SignTrial.parts_large fit parts large
  trial_later sign i j answer (SignTrial.powers_large fit parts small large) = SignTrial.powers_large fit parts small large
  trial_later sign i j answer (SignTrial.go_on compared apart rest) = SignTrial.go_on compared apart (leads answer rest)
  trial_later sign i j answer (SignTrial.found_wide compared conjugate order wide) = SignTrial.found_wide compared conjugate order wide
  trial_later sign i j answer (SignTrial.found compared printed order fits) = SignTrial.found compared printed order fits

  -- and so does a sign
  sign_later : (sign : Sign) (M ahead behind over over_behind : ℕ) (answer : PowerAnswer)
      → SignAnswers shape a b X Y sign M ahead behind over over_behind later answer
      → SignAnswers shape a b X Y sign M ahead behind over over_behind after answer
  sign_later sign M ahead behind over over_behind answer (SignAnswers.tried {p = p} {q = q} same ratio trial) = SignAnswers.tried same ratio (trial_later sign (p * M) (q * M) answer trial)
  sign_later sign M ahead behind over over_behind answer (SignAnswers.left_out differ rest) = SignAnswers.left_out differ (leads answer rest)

-- ---- one sign

module _ (f g : TypedValue) (sign : Sign) (rates : Rates) where
  -- what comes later answers, where the sign is passed over
  passed_over : IsPassedOver f g sign rates → (later : PowerAnswer → Type 0) (answer : PowerAnswer) → later answer
      → SignOf f g sign rates later answer
  passed_over (IsPassedOver.left_out differ) later answer rest = SignAnswers.left_out differ rest
  passed_over (IsPassedOver.passed same ratio passed) later answer rest = SignAnswers.tried same ratio (SignTrial.go_on passed.compared passed.apart rest)

  -- what the sign answers itself, it answers whatever comes later
  itself : (later : PowerAnswer → Type 0) (answer : PowerAnswer) → SignOf f g sign rates Never answer → SignOf f g sign rates later answer
  itself later answer = sign_later (λ other never. absurd never) sign rates.period rates.first_ahead rates.first_behind (over_in sign rates) (over_behind_in sign rates) answer

  -- the trial with the ratio in lowest terms, times the period, is what the sign answers
  pub sign_tried : (p q i j : ℕ) → over_in sign rates * rates.first_behind ≡ over_behind_in sign rates * rates.first_ahead
      → IsRatio (over_in sign rates) rates.first_ahead p q → i ≡ p * rates.period → j ≡ q * rates.period
      → (result : Result (Option PowerVerdict) PowerFault) → TellsTried f g sign i j result → TellsSign f g sign rates result
  sign_tried p q i j same ratio first second result told = tell result (subst₂ (λ (m n : ℕ). TellsTried f g sign m n result) first second told)
    where
      tell : (result : Result (Option PowerVerdict) PowerFault) → TellsTried f g sign (p * rates.period) (q * rates.period) result
          → TellsSign f g sign rates result
      tell (Ok (Some verdict)) told = SignAnswers.tried same ratio told
      tell (Ok None) told = IsPassedOver.passed same ratio told
      tell (Err (fault.Budget which)) told = absurd told
      tell (Err (fault.Large rows letters)) told = SignAnswers.tried same ratio told
      tell (Err fault.Wide) told = SignAnswers.tried same ratio told
      tell (Err fault.NoMemory) told = tt

  -- one of the two numbers is wide
  pub sign_wide : (p q : ℕ) → over_in sign rates * rates.first_behind ≡ over_behind_in sign rates * rates.first_ahead
      → IsRatio (over_in sign rates) rates.first_ahead p q → IsSomeWide ((p * rates.period) ∷ (q * rates.period) ∷ [])
      → TellsSign f g sign rates (Err fault.Wide)
  sign_wide p q same ratio wide = SignAnswers.tried same ratio (SignTrial.wide wide)

-- ---- both signs

-- a rate is wide
pub wide_answered : {f g : TypedValue} → AreInfinite f g → AreWideRates f g → AnswersOf f g TooWide
wide_answered infinite wide = Answers.wide_rates infinite wide.have wide.wide

-- what is told by answers that lead to others, as a fault, is told by these
fault_weaker : (S : (PowerAnswer → Type 0) → PowerAnswer → Type 0) (Passed : Type 0) (P : PowerAnswer → Type 0)
    → ((answer : PowerAnswer) → S Never answer → P answer)
    → {result : Result PowerVerdict PowerFault} {made : PowerFault} (failed : PowerFault) → result ≡ Err made → made ≡ failed → TellsBy S Passed (Err failed) → Tells P result
fault_weaker S Passed P weaker failed is from told = subst (Tells P) (sym (is ∙ ap Err from)) (tell failed told)
  where
    tell : (failed : PowerFault) → TellsBy S Passed (Err failed) → Tells P (Err failed)
    tell (fault.Budget which) told = absurd told
    tell (fault.Large rows letters) told = weaker _ told
    tell fault.Wide told = weaker _ told
    tell fault.NoMemory told = tt

module _ {f g : TypedValue} {rates : Rates} (are : AreRates f g rates) (infinite : AreInfinite f g) where
  -- what the sign minus answers, the last one
  abbrev Last : PowerAnswer → Type 0
  Last answer = SignOf f g Minus rates (λ last. last ≡ NoPowers) answer

  -- the answers of both signs
  both_signs : (answer : PowerAnswer) → SignOf f g Plus rates Last answer → AnswersOf f g answer
  both_signs answer signs = Answers.infinite infinite are.have are.small signs

  by_plus : (answer : PowerAnswer) → SignOf f g Plus rates Never answer → AnswersOf f g answer
  by_plus answer told = both_signs answer (itself f g Plus rates Last answer told)

  -- the sign plus fails
  pub plus_failed : {result : Result PowerVerdict PowerFault} {made : PowerFault} (failed : PowerFault) → result ≡ Err made → made ≡ failed
      → TellsSign f g Plus rates (Err failed) → Tells (AnswersOf f g) result
  plus_failed = fault_weaker (SignOf f g Plus rates) (IsPassedOver f g Plus rates) (AnswersOf f g) by_plus

  module _ (plus : Option PowerVerdict) (plus_told : TellsSign f g Plus rates (Ok plus)) where
    -- it finds powers
    pub plus_found : (verdict : PowerVerdict) → plus ≡ Some verdict → AnswersOf f g (rule_answer verdict)
    plus_found verdict is = by_plus (rule_answer verdict) (subst (λ (o : Option PowerVerdict). TellsSign f g Plus rates (Ok o)) is plus_told)

    -- it is passed over
    module _ (none : plus ≡ None) where
      passed : (answer : PowerAnswer) → Last answer → AnswersOf f g answer
      passed answer last = both_signs answer (passed_over f g Plus rates (subst (λ (o : Option PowerVerdict). TellsSign f g Plus rates (Ok o)) none plus_told) Last answer last)

      by_minus : (answer : PowerAnswer) → SignOf f g Minus rates Never answer → AnswersOf f g answer
      by_minus answer told = passed answer (itself f g Minus rates (λ last. last ≡ NoPowers) answer told)

      -- then the sign minus fails
      pub minus_failed : {result : Result PowerVerdict PowerFault} {made : PowerFault} (failed : PowerFault) → result ≡ Err made → made ≡ failed
          → TellsSign f g Minus rates (Err failed) → Tells (AnswersOf f g) result
      minus_failed = fault_weaker (SignOf f g Minus rates) (IsPassedOver f g Minus rates) (AnswersOf f g) by_minus

      module _ (minus : Option PowerVerdict) (minus_told : TellsSign f g Minus rates (Ok minus)) where
        -- or finds powers
        pub minus_found : (verdict : PowerVerdict) → minus ≡ Some verdict → AnswersOf f g (rule_answer verdict)
        minus_found verdict is = by_minus (rule_answer verdict) (subst (λ (o : Option PowerVerdict). TellsSign f g Minus rates (Ok o)) is minus_told)

        -- or is passed over too
        pub none_found : minus ≡ None → AnswersOf f g NoPowers
        none_found is = passed NoPowers (passed_over f g Minus rates (subst (λ (o : Option PowerVerdict). TellsSign f g Minus rates (Ok o)) is minus_told) (λ last. last ≡ NoPowers) NoPowers refl)
