-- What is told of a sign by which the power rule tries infinite parts. f and g are two elements with their quasinormal bases.
--
--     HasFitParts budget t          each power of the infinite part fits the budget
--     SomeRates rates               none is wide, and the first element's are from 1 on
--     over_in sign rates            the second's rate at attractors, with the sign minus at repellers; over_behind_in the other one
--     TellsRatio sign rates result  the ratio in lowest terms, where it is one at attractors and repellers; none exactly where it isn't
--     Tried f g sign i j later      the trial of the sign with the numbers i and j
--     IsPassed f g sign i j         the powers by i and j, with the sign, are compared and not conjugate
--     TellsTried f g sign i j result    what the trial answers itself; none where it is passed
--     SignOf f g sign rates later   what the rule answers by the sign
--     IsPassedOver f g sign rates   the sign isn't tried, or passed
--     TellsSign f g sign rates result   what the rule answers by the sign itself; none where it is passed over
--     TellsWhole f g i j result     both numbers times the common order of the periodic parts; none exactly where one is wide
use Rattle.std.specs.Prelude.{ℕ, ◌≡◌, ◌≢◌, ◌≤◌, ◌*◌, List, [], ◌∷◌, Option, None, Some, Result, Ok, Err, ⊤}
use Rattle.ht_num.specs.Numbers.{IsRatio, IsSomeWide}
use Rattle.ht_pair.specs.declared.row.Row.{Row}
use Rattle.ht_pair.specs.declared.verdict.PowerVerdict.{PowerVerdict}
use Rattle.ht_pair.specs.Conjugacy.{AreConjugate}
use Rattle.ht_pair.specs.Parts.{HasParts}
use Rattle.ht_pair.specs.PowerSizes.{Sign, Plus, Minus}
use Rattle.ht_pair.specs.PowerTrials.{PowerAnswer, TooLarge, TooWide}
use Rattle.ht_pair.specs.PowerVerdicts.{rule_answer}
use Rattle.ht_pair.specs.SignTrials.{IsCommonOrder, SignAnswers, SignCompares, SignTrial}
use Rattle.ht_types.specs.TypedElements.{TypedValue}
use Rattle.ht_power.specs.declared.fault.PowerFault.{PowerFault}
use Rattle.ht_power.specs.declared.fault.PowerFault.TheVariants as fault
use Rattle.ht_power.specs.declared.rates.Rates.{Rates}
use Rattle.ht_power.specs.RatesTold.{all_rates}
use Rattle.ht_power.specs.Told.{HasFitPowers}

abbrev pub HasFitParts : ℕ → TypedValue → Type 0
HasFitParts budget t = (first second : List Row) → HasParts t.element.shape t.element.rows t.quasi.basis.words first second → HasFitPowers t.element.shape budget second

pub record SomeRates (rates : Rates) : Type 0 where
  pub small : ¬ IsSomeWide (all_rates rates)
  pub ahead : 1 ≤ rates.first_ahead
  pub behind : 1 ≤ rates.first_behind

abbrev pub over_in : Sign → Rates → ℕ
over_in Plus rates = rates.second_ahead
over_in Minus rates = rates.second_behind

abbrev pub over_behind_in : Sign → Rates → ℕ
over_behind_in Plus rates = rates.second_behind
over_behind_in Minus rates = rates.second_ahead

abbrev pub TellsRatio : Sign → Rates → Option (ℕ × ℕ) → Type 0
TellsRatio sign rates (Some both) = (over_in sign rates * rates.first_behind ≡ over_behind_in sign rates * rates.first_ahead) × IsRatio (over_in sign rates) rates.first_ahead both.0 both.1
TellsRatio sign rates None = over_in sign rates * rates.first_behind ≢ over_behind_in sign rates * rates.first_ahead

abbrev pub Tried : TypedValue → TypedValue → Sign → ℕ → ℕ → (PowerAnswer → Type 0) → PowerAnswer → Type 0
Tried f g = SignTrial f.element.shape f.element.rows g.element.rows f.quasi.basis.words g.quasi.basis.words

pub record IsPassed (f g : TypedValue) (sign : Sign) (i j : ℕ) : Type 0 where
  pub first : List Row
  pub second : List Row
  pub compared : SignCompares f.element.shape f.element.rows g.element.rows f.quasi.basis.words g.quasi.basis.words sign i j first second
  pub apart : ¬ AreConjugate f.element.shape first second

-- nothing is answered later
abbrev pub Never : PowerAnswer → Type 0
Never answer = ⊥

abbrev pub TellsBy : ((PowerAnswer → Type 0) → PowerAnswer → Type 0) → Type 0 → Result (Option PowerVerdict) PowerFault → Type 0
TellsBy S Passed (Ok (Some verdict)) = S Never (rule_answer verdict)
TellsBy S Passed (Ok None) = Passed
TellsBy S Passed (Err (fault.Budget which)) = ⊥
TellsBy S Passed (Err (fault.Large rows letters)) = S Never (TooLarge rows letters)
TellsBy S Passed (Err fault.Wide) = S Never TooWide
TellsBy S Passed (Err fault.NoMemory) = ⊤

abbrev pub TellsTried : TypedValue → TypedValue → Sign → ℕ → ℕ → Result (Option PowerVerdict) PowerFault → Type 0
TellsTried f g sign i j = TellsBy (Tried f g sign i j) (IsPassed f g sign i j)

abbrev pub SignOf : TypedValue → TypedValue → Sign → Rates → (PowerAnswer → Type 0) → PowerAnswer → Type 0
SignOf f g sign rates = SignAnswers f.element.shape f.element.rows g.element.rows f.quasi.basis.words g.quasi.basis.words sign rates.period rates.first_ahead rates.first_behind (over_in sign rates) (over_behind_in sign rates)

pub data IsPassedOver (f g : TypedValue) (sign : Sign) (rates : Rates) : Type 0 where
  left_out : over_in sign rates * rates.first_behind ≢ over_behind_in sign rates * rates.first_ahead → IsPassedOver f g sign rates
  passed : {p q : ℕ} → over_in sign rates * rates.first_behind ≡ over_behind_in sign rates * rates.first_ahead → IsRatio (over_in sign rates) rates.first_ahead p q → IsPassed f g sign (p * rates.period) (q * rates.period) → IsPassedOver f g sign rates

abbrev pub TellsSign : TypedValue → TypedValue → Sign → Rates → Result (Option PowerVerdict) PowerFault → Type 0
TellsSign f g sign rates = TellsBy (SignOf f g sign rates) (IsPassedOver f g sign rates)

abbrev pub HasCommonOrder : TypedValue → TypedValue → ℕ → Type 0
HasCommonOrder f g N = IsCommonOrder f.element.shape f.element.rows g.element.rows f.quasi.basis.words g.quasi.basis.words N

abbrev pub TellsWhole : TypedValue → TypedValue → ℕ → ℕ → Option (ℕ × ℕ) → Type 0
TellsWhole f g i j (Some both) = (N : ℕ) × HasCommonOrder f g N × (both.0 ≡ i * N) × (both.1 ≡ j * N) × ¬ IsSomeWide (N ∷ (i * N) ∷ (j * N) ∷ [])
TellsWhole f g i j None = (N : ℕ) × HasCommonOrder f g N × IsSomeWide (N ∷ (i * N) ∷ (j * N) ∷ [])
