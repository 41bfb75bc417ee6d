-- What is told, as an answer of the power rule. f and g are two elements with their quasinormal bases, of one shape.
--
--     of_operation fault       why an operation gives no element, as a fault of power conjugacy
--     Tells P result           the property holds of the answer that is told; want of memory tells none
--     AnswersOf f g            the answers of the power rule, once the bases are at hand
--     IsFit shape budget p     it isn't over the budget
--     HasFitPowers shape budget p   none of its powers is
--     TellsBasis a budget which result   the element with its quasinormal basis, within the budget; or it takes more, and which it is
--     TellsConjugator f g result   canonical rows of a normal conjugator; none exactly where f and g aren't conjugate
--     TellsPowers a b sign i j result   the powers by i and j, with the sign, where none over the chains is large; or the first that is
--     TellsTrial a b sign i j result    what is told of these powers
use Rattle.std.specs.Prelude.{ℕ, ℤ, ◌≡◌, List, Option, Some, None, Result, Ok, Err, ⊤}
use Rattle.ht_word.specs.declared.shape.Shape.{Shape}
use Rattle.ht_pair.specs.declared.row.Row.{Row}
use Rattle.ht_pair.specs.declared.decider.Which.{Which}
use Rattle.ht_pair.specs.declared.decider.Which.TheVariants.{First, Second}
use Rattle.ht_pair.specs.declared.fault.OpFault.{OpFault}
use Rattle.ht_pair.specs.declared.fault.OpFault.TheVariants as op_fault
use Rattle.ht_pair.specs.declared.verdict.PowerVerdict.{PowerVerdict}
use Rattle.ht_pair.specs.Bases.{TakesAtMost}
use Rattle.ht_pair.specs.Conjugacy.{AreConjugate}
use Rattle.ht_pair.specs.PowerRule.{Answers}
use Rattle.ht_pair.specs.Budgets.{IsOverBudget}
use Rattle.ht_pair.specs.Elements.{ElementValue}
use Rattle.ht_pair.specs.PowerSizes.{Sign, Plus, Minus}
use Rattle.ht_pair.specs.Products.{IsPower}
use Rattle.ht_pair.specs.PowerTrials.{PowerAnswer, FirstPastBudget, SecondPastBudget, TooLarge, TooWide, IsPrinted, TrialIsLarge, TrialCompares}
use Rattle.ht_pair.specs.PowerVerdicts.{rule_answer}
use Rattle.ht_types.specs.TypedElements.{TypedValue, IsTyped}
use Rattle.ht_power.specs.declared.trial.Sign as trial
use Rattle.ht_power.specs.declared.trial.Sign.TheVariants as sign
use Rattle.ht_power.specs.declared.fault.PowerFault.{PowerFault}
use Rattle.ht_power.specs.declared.fault.PowerFault.TheVariants as fault

abbrev pub of_operation : OpFault → PowerFault
of_operation (op_fault.Large rows letters) = fault.Large rows letters
of_operation op_fault.NoMemory = fault.NoMemory

abbrev pub Tells : (PowerAnswer → Type 0) → Result PowerVerdict PowerFault → Type 0
Tells P (Ok verdict) = P (rule_answer verdict)
Tells P (Err (fault.Budget First)) = P FirstPastBudget
Tells P (Err (fault.Budget Second)) = P SecondPastBudget
Tells P (Err (fault.Large rows letters)) = P (TooLarge rows letters)
Tells P (Err fault.Wide) = P TooWide
Tells P (Err fault.NoMemory) = ⊤

abbrev pub AnswersOf : TypedValue → TypedValue → PowerAnswer → Type 0
AnswersOf f g answer = Answers f.element.shape f.element.rows g.element.rows f.quasi.basis.words g.quasi.basis.words answer

abbrev pub IsFit : Shape → ℕ → List Row → Type 0
IsFit shape budget p = ¬ IsOverBudget shape budget p

abbrev pub HasFitPowers : Shape → ℕ → List Row → Type 0
HasFitPowers shape budget p = (k : ℤ) (s : List Row) → IsPower shape p k s → IsFit shape budget s

abbrev pub sign_of : trial.Sign → Sign
sign_of sign.Plus = Plus
sign_of sign.Minus = Minus

abbrev pub TellsBasis : ElementValue → ℕ → Which → Result TypedValue PowerFault → Type 0
TellsBasis element budget which (Ok t) = (t.element ≡ element) × IsTyped element t.quasi t.kinds × TakesAtMost element.shape t.quasi.basis.words budget
TellsBasis element budget which (Err (fault.Budget other)) = (other ≡ which) × IsOverBudget element.shape budget element.rows
TellsBasis element budget which (Err (fault.Large rows letters)) = ⊥
TellsBasis element budget which (Err fault.Wide) = ⊥
TellsBasis element budget which (Err fault.NoMemory) = ⊤

abbrev pub TellsConjugator : Shape → List Row → List Row → Option (List Row) → Type 0
TellsConjugator shape f g (Some rows) = IsPrinted shape f g rows
TellsConjugator shape f g None = ¬ AreConjugate shape f g

abbrev pub TellsPowers : ElementValue → ElementValue → Sign → ℕ → ℕ → Result (ElementValue × ElementValue) PowerFault → Type 0
TellsPowers a b sign i j (Ok both) = TrialCompares a.shape a.rows b.rows sign i j both.0.rows both.1.rows
TellsPowers a b sign i j (Err (fault.Budget which)) = ⊥
TellsPowers a b sign i j (Err (fault.Large rows letters)) = TrialIsLarge a.shape a.rows b.rows sign i j rows letters
TellsPowers a b sign i j (Err fault.Wide) = ⊥
TellsPowers a b sign i j (Err fault.NoMemory) = ⊤

pub record AreCompared (shape : Shape) (a b : List Row) (sign : Sign) (i j : ℕ) (told : Option (List Row)) : Type 0 where
  pub first : List Row
  pub second : List Row
  pub compared : TrialCompares shape a b sign i j first second
  pub tells : TellsConjugator shape first second told

abbrev pub TellsTrial : Shape → List Row → List Row → Sign → ℕ → ℕ → Result (Option (List Row)) PowerFault → Type 0
TellsTrial shape a b sign i j (Ok told) = AreCompared shape a b sign i j told
TellsTrial shape a b sign i j (Err (fault.Budget which)) = ⊥
TellsTrial shape a b sign i j (Err (fault.Large rows letters)) = TrialIsLarge shape a b sign i j rows letters
TellsTrial shape a b sign i j (Err fault.Wide) = ⊥
TellsTrial shape a b sign i j (Err fault.NoMemory) = ⊤
