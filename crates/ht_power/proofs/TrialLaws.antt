-- Two powers that are made and compared, as they are told.
use Rattle.std.proofs.Common.{◌≡◌, ◌≤◌, ℕ, zero, suc, List, Result, Err, refl, sym, ap, ◌∙◌, subst, subst₂, arith, ℤ, ◌<◌, ◌^◌, FitsSigned, to_z, of_z}
use Rattle.std.specs.Int.{w128}
use Rattle.std.proofs.lemmas.Int.{to_z-of_z}
use Rattle.ht_word.specs.declared.shape.Shape.{Shape}
use Rattle.ht_num.specs.Chains.{chain}
use Rattle.ht_pair.specs.Elements.{ElementValue}
use Rattle.ht_pair.specs.PowerSizes.{Sign, Plus, Minus, signed, IsFirstLarge, NoneLarge, IsLargePower}
use Rattle.ht_pair.specs.PowerTrials.{PowerAnswer, TooLarge, TrialIsLarge}
use Rattle.ht_pair.specs.Products.{IsPower}
use Rattle.ht_pair.specs.declared.fault.OpFault.{OpFault}
use Rattle.ht_pair.specs.declared.fault.OpFault.TheVariants as op_fault
use Rattle.ht_pair.specs.declared.row.Row.{Row}
use Rattle.ht_power.specs.declared.fault.PowerFault.{PowerFault}
use Rattle.ht_power.specs.declared.fault.PowerFault.TheVariants as fault
use Rattle.ht_power.specs.Told.{of_operation, IsFit, HasFitPowers, Tells, TellsPowers}

-- ---- large powers, by the sign of their exponent

-- an exponent below 2^127 in absolute value is read as it is
pub sign_read : (sign : Sign) (j : ℕ) (k : ℤ) → j < 2 ^ 127 → k ≡ signed sign j → to_z w128 (of_z w128 k) ≡ signed sign j
sign_read sign j k high is = to_z-of_z w128 k (subst (FitsSigned w128) (sym is) (fits sign j high)) ∙ is
  where
    fits : (sign : Sign) (j : ℕ) → j < 2 ^ 127 → FitsSigned w128 (signed sign j)
    fits Plus j high = record { sfits = high }
    fits Minus zero high = record { sfits = omega arith }
    fits Minus (suc j) high = record { sfits = omega arith }

-- the first large power over the chain of an exponent from 1 on
pub first_is_large : {own shape : Shape} (p : List Row) (sign : Sign) (j rows letters : ℕ) {k : ℤ} → own ≡ shape → 1 ≤ j → k ≡ signed sign j → IsLargePower own p k rows letters → IsFirstLarge shape p sign (chain j) rows letters
first_is_large {own} {shape} p sign j rows letters same low is h = told sign j low (subst₂ (λ (s : Shape) (i : ℤ). IsLargePower s p i rows letters) same is h)
  where
    told : (sign : Sign) (j : ℕ) → 1 ≤ j → IsLargePower shape p (signed sign j) rows letters → IsFirstLarge shape p sign (chain j) rows letters
    told Plus j low h = h
    told Minus zero low h = absurd (omega arith)
    told Minus (suc j) low h = h

-- and there is none, where no power is large
pub none_is_large : {own shape : Shape} (p : List Row) (sign : Sign) (j : ℕ) {k : ℤ} → own ≡ shape → 1 ≤ j → k ≡ signed sign j → ((rows letters : ℕ) → ¬ IsLargePower own p k rows letters) → NoneLarge shape p sign j
none_is_large {own} {shape} p sign j same low is none = λ rows letters h. none rows letters (subst₂ (λ (s : Shape) (i : ℤ). IsLargePower s p i rows letters) (sym same) (sym is) (told sign j low rows letters h))
  where
    told : (sign : Sign) (j : ℕ) → 1 ≤ j → (rows letters : ℕ) → IsFirstLarge shape p sign (chain j) rows letters → IsLargePower shape p (signed sign j) rows letters
    told Plus j low rows letters h = h
    told Minus zero low rows letters h = absurd (omega arith)
    told Minus (suc j) low rows letters h = h

-- ---- the budget

-- a power fits the budget that all powers fit
pub power_fits : {own given shape : Shape} (budget : ℕ) (p s : List Row) (k : ℤ) → own ≡ given → given ≡ shape → HasFitPowers given budget p → IsPower shape p k s → IsFit own budget s
power_fits {own} {given} {shape} budget p s k same is fit power = subst (λ (t : Shape). IsFit t budget s) (sym same) (fit k s (subst (λ (t : Shape). IsPower t p k s) (sym is) power))

-- ---- faults

-- a power that isn't made is large, or no memory was found
pub powers_not_made : (a b : ElementValue) (sign : Sign) (i j : ℕ) {result : Result (ElementValue × ElementValue) PowerFault} {made : PowerFault} (failed : OpFault) → result ≡ Err made → made ≡ of_operation failed
    → ((rows letters : ℕ) → failed ≡ op_fault.Large rows letters → TrialIsLarge a.shape a.rows b.rows sign i j rows letters) → TellsPowers a b sign i j result
powers_not_made a b sign i j failed is from large = subst (TellsPowers a b sign i j) (sym (is ∙ ap Err from)) (told failed large)
  where
    told : (failed : OpFault) → ((rows letters : ℕ) → failed ≡ op_fault.Large rows letters → TrialIsLarge a.shape a.rows b.rows sign i j rows letters) → TellsPowers a b sign i j (Err (of_operation failed))
    told (op_fault.Large rows letters) large = large rows letters refl
    told op_fault.NoMemory large = tt

-- so it is answered, where it is an answer that a power is large
pub answer_not_made : (P : PowerAnswer → Type 0) (a b : ElementValue) (sign : Sign) (i j : ℕ) {made : Result (ElementValue × ElementValue) PowerFault} (failed : PowerFault) → made ≡ Err failed → TellsPowers a b sign i j made
    → ((rows letters : ℕ) → TrialIsLarge a.shape a.rows b.rows sign i j rows letters → P (TooLarge rows letters)) → Tells P (Err failed)
answer_not_made P a b sign i j failed is h large = told failed (subst (TellsPowers a b sign i j) is h)
  where
    told : (failed : PowerFault) → TellsPowers a b sign i j (Err failed) → Tells P (Err failed)
    told (fault.Budget which) h = absurd h
    told (fault.Large rows letters) h = large rows letters h
    told fault.Wide h = absurd h
    told fault.NoMemory h = tt
