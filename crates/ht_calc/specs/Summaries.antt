-- Summaries of samples: up to six lines about the elements a, h and c of a sample. The last three lines, and the numbers of
-- words of the third one, are what the calculator answers in one state; so each is refused where its question is.
--
--     asked budget a c              this state: the group of a, the budget, and the names a and c bound to the elements' canonical pairs
--     basis_size answer             the number of words of a basis; only the answer to `basis` has one
--     shortened answer              the line that tells an answer without its rows
--     IsSummed number budget a h c place line       this is the line of the place, from 1 to 6
--     AreSummed number budget a h c place lines     the first of the lines is of the place, and each other of the next one
--     HasSummary words number lines                 the first lines of the summary of the number's sample, by the budget that the words give
--     HasSummedText line            the line's answer, where it has one, has a text
--     IsSummedRefusal line          the line's answer is a refusal
--     summed_text line              its text, with the line feed
--     summary_text lines            their texts, in order
--     SummaryTable words number sink_fails O status   what holds at this status where O was written
use Rattle.std.specs.Prelude.{◌≡◌, ◌⊎◌, ℕ, suc, List, [], ◌∷◌, ◌++◌, length, Any, Option, Some, None, codes, decimal, ⊤}
use Rattle.std.specs.Fmt.{signed_decimal}
use Rattle.std.specs.List.{flat_map}
use Rattle.clap.specs.Words.{Text}
use Rattle.ht_pair.specs.Elements.{ElementValue}
use Rattle.ht_sample.specs.Samples.{IsSample}
use Rattle.ht_script.specs.declared.line.Line.TheVariants as line
use Rattle.ht_answer.specs.declared.answer.Answer.{Answer}
use Rattle.ht_answer.specs.declared.answer.Answer.TheVariants as answer
use Rattle.ht_answer.specs.Answers.{IsRefusal, HasAnswerText, number_line, answer_text}
use Rattle.ht_calc.specs.declared.status.Status.{Status}
use Rattle.ht_calc.specs.declared.status.Status.TheVariants.{Done, SomeRefused, BadWords, ReadFault, WriteFault, NoMemory, TooLong}
use Rattle.ht_calc.specs.declared.summed.Summed.{Summed}
use Rattle.ht_calc.specs.declared.summed.Summed.TheVariants as summed
use Rattle.ht_calc.specs.CommandLines.{IsBudgetOf}
use Rattle.ht_calc.specs.States.{State}
use Rattle.ht_calc.specs.Steps.{Does}

abbrev pub asked : ℕ → ElementValue → ElementValue → State
asked budget a c = record { shape = Some (a.shape); budget = budget; names = (codes "a", a.rows) ∷ (codes "c", c.rows) ∷ [] }

abbrev pub basis_size : Answer → Option ℕ
basis_size (answer.Basis words) = Some (length words)
basis_size _ = None

abbrev pub shortened : Answer → Summed
shortened (answer.Conjugate rows) = summed.Conjugate
shortened (answer.NotKept letters rows) = summed.Conjugate
shortened (answer.Powers i j by) = summed.Powers i j
shortened other = summed.Answer other

pub data IsSummed (number budget : ℕ) (a h c : ElementValue) : ℕ → Summed → Type 0 where
  sample_named : IsSummed number budget a h c 1 (summed.Sample number)
  rows_counted : IsSummed number budget a h c 2 (summed.Rows (length a.rows) (length h.rows) (length c.rows))
  bases_counted : (first second : Answer) (i j : ℕ) → Does (asked budget a c) (line.Basis (codes "a")) first (asked budget a c) → basis_size first ≡ Some i
      → Does (asked budget a c) (line.Basis (codes "c")) second (asked budget a c) → basis_size second ≡ Some j → IsSummed number budget a h c 3 (summed.Bases i j)
  first_basis_refused : (first : Answer) → Does (asked budget a c) (line.Basis (codes "a")) first (asked budget a c) → basis_size first ≡ None → IsSummed number budget a h c 3 (summed.Answer first)
  second_basis_refused : (first second : Answer) (i : ℕ) → Does (asked budget a c) (line.Basis (codes "a")) first (asked budget a c) → basis_size first ≡ Some i
      → Does (asked budget a c) (line.Basis (codes "c")) second (asked budget a c) → basis_size second ≡ None → IsSummed number budget a h c 3 (summed.Answer second)
  conjugacy_told : (told : Answer) (new : State) → Does (asked budget a c) (line.Conj (codes "h") (codes "a") (codes "c")) told new → IsSummed number budget a h c 4 (shortened told)
  order_told : (told : Answer) → Does (asked budget a c) (line.Order (codes "a")) told (asked budget a c) → IsSummed number budget a h c 5 (summed.Answer told)
  powers_told : (told : Answer) → Does (asked budget a c) (line.Power (codes "a") (codes "c")) told (asked budget a c) → IsSummed number budget a h c 6 (shortened told)

abbrev pub AreSummed : ℕ → ℕ → ElementValue → ElementValue → ElementValue → ℕ → List Summed → Type 0
AreSummed number budget a h c place [] = ⊤
AreSummed number budget a h c place (line ∷ lines) = IsSummed number budget a h c place line × AreSummed number budget a h c (suc place) lines

pub record HasSummary (words : List Text) (number : ℕ) (lines : List Summed) : Type 0 where
  pub budget : ℕ
  pub given : IsBudgetOf words budget
  pub a : ElementValue
  pub h : ElementValue
  pub c : ElementValue
  pub sample : IsSample number a h c
  pub are_summed : AreSummed number budget a h c 1 lines

abbrev pub HasSummedText : Summed → Type 0
HasSummedText (summed.Answer answer) = HasAnswerText answer
HasSummedText other = ⊤

abbrev pub IsSummedRefusal : Summed → Type 0
IsSummedRefusal (summed.Answer answer) = IsRefusal answer
IsSummedRefusal other = ⊥

abbrev pub summed_text : Summed → List ℕ
summed_text (summed.Sample number) = number_line (codes "sample ") number
summed_text (summed.Rows a h c) = codes "rows " ++ decimal a ++ codes " " ++ decimal h ++ number_line (codes " ") c
summed_text (summed.Bases a c) = codes "basis " ++ decimal a ++ number_line (codes " ") c
summed_text summed.Conjugate = codes "conjugate\n"
summed_text (summed.Powers i j) = codes "power " ++ signed_decimal i ++ codes " " ++ signed_decimal j ++ codes "\n"
summed_text (summed.Answer answer) = answer_text answer

abbrev pub summary_text : List Summed → List ℕ
summary_text lines = flat_map summed_text lines

abbrev pub SummaryTable : List Text → ℕ → Type 0 → List ℕ → Status → Type 0
SummaryTable words number sink_fails O Done = (lines : List Summed) × HasSummary words number lines × (length lines ≡ 6) × (O ≡ summary_text lines) × (¬ Any IsSummedRefusal lines)
SummaryTable words number sink_fails O SomeRefused = (lines : List Summed) × HasSummary words number lines × (length lines ≡ 6) × (O ≡ summary_text lines) × Any IsSummedRefusal lines
SummaryTable words number sink_fails O BadWords = O ≡ []
SummaryTable words number sink_fails O ReadFault = ⊥
SummaryTable words number sink_fails O WriteFault = sink_fails × (lines : List Summed) × HasSummary words number lines × (rest : List ℕ) × (summary_text lines ≡ O ++ rest)
SummaryTable words number sink_fails O NoMemory = (O ≡ []) ⊎ ((lines : List Summed) × HasSummary words number lines × (O ≡ summary_text lines))
SummaryTable words number sink_fails O TooLong = ⊥
