-- How far a run has come. These notions serve the private functions alone.
--
--     whole_text lines                    the lines, each with its line feed
--     IsCut T lines begun                 T is these lines, each with its line feed, and what is begun of one more; they are within the limits
--     IsReady reading                     what is begun has no line feed, and there is room for it
--     IsRead extent T lines begun         the lines of T that were answered, by how far T was read
--     Calls                               the counts of a library: of its faults, and of the fetches made
--     Origin                              how a run began, by its budget and the counts of the library then; and how far it had come at some time: the number of answers written, and their output
--     Answered .. lines answering O       O is the output of a run over these lines that led to here, and goes on from that time
--     Stands extent T O .. reading        so far T was read to this extent, and O is the output
--     IsFurtherOn old new                 one more line was ended, or more of it was begun
use Rattle.std.specs.Prelude.{◌≡◌, ◌≢◌, ◌↔◌, ◌⊎◌, ℕ, ◌<◌, ◌≤◌, List, [], ◌∷◌, ◌++◌, length, take, All, Any, IsTrue, Option}
use Rattle.std.specs.List.{flat_map}
use Rattle.ht_answer.specs.declared.answer.Answer.{Answer}
use Rattle.ht_answer.specs.Answers.{IsRefusal}
use Rattle.ht_calc.specs.declared.answering.Answering.{Answering}
use Rattle.ht_calc.specs.declared.lines.Reading.{Reading}
use Rattle.ht_calc.specs.declared.lines.Extent.{Extent}
use Rattle.ht_calc.specs.declared.lines.Extent.TheVariants.{Within, Ended, TooLong}
use Rattle.ht_calc.specs.Fetches.{Fetched, AreFetches, AreAll}
use Rattle.ht_calc.specs.Runs.{Run, output_of}
use Rattle.ht_calc.specs.ScriptLines.{lines_of, whole_lines, counting_lines, IsShort, IsTooLong}
use Rattle.ht_calc.specs.States.{start}

abbrev pub IsOneLine : List ℕ → Type 0
IsOneLine line = All (λ b. b ≢ 10) line

abbrev pub whole_text : List (List ℕ) → List ℕ
whole_text lines = flat_map (λ line. line ++ 10 ∷ []) lines

pub record IsCut (T : List ℕ) (lines : List (List ℕ)) (begun : List ℕ) : Type 0 where
  pub bytes : T ≡ whole_text lines ++ begun
  pub one_line : All IsOneLine lines
  pub short : All IsShort lines
  pub few : length lines ≤ 65536

pub record IsReady (reading : Reading) : Type 0 where
  pub one_line : IsOneLine reading.begun.items
  pub short : IsShort reading.begun.items
  pub few : reading.answering.lines ≤ 65536
  pub room : 0 < length reading.begun.items → reading.answering.lines < 65536

abbrev pub IsRead : Extent → List ℕ → List (List ℕ) → List ℕ → Type 0
IsRead Within T lines begun = IsCut T lines begun
IsRead Ended T lines begun = (¬ IsTooLong T) × (lines_of T ≡ lines) × (counting_lines T ≡ lines)
IsRead TooLong T lines begun = IsTooLong T × (counting_lines T ≡ lines) × (length lines ≤ length (whole_lines T))

pub record Calls : Type 0 where
  pub faults : ℕ
  pub asked : ℕ

pub record Origin : Type 0 where
  pub budget : ℕ
  pub calls : Calls
  pub done : ℕ
  pub written : List ℕ

pub record Answered (files : Option (List (List ℕ × List ℕ))) (before : Origin) (now : Calls) (lines : List (List ℕ)) (answering : Answering) (O : List ℕ) : Type 0 where
  pub count : answering.lines ≡ length lines
  pub fetches : List Fetched
  pub answers : List Answer
  pub run : Run (start before.budget) lines fetches answers answering.session
  pub fetched : AreFetches files before.calls.faults now.faults fetches
  pub all : AreAll before.calls.asked now.asked fetches
  pub output : O ≡ output_of answers
  pub refusal : IsTrue answering.some_refused ↔ Any IsRefusal answers
  pub reached : before.done ≤ length answers
  pub written : output_of (take before.done answers) ≡ before.written

pub record Stands (extent : Extent) (T O : List ℕ) (files : Option (List (List ℕ × List ℕ))) (before : Origin) (now : Calls) (reading : Reading) : Type 0 where
  pub lines : List (List ℕ)
  pub read : IsRead extent T lines reading.begun.items
  pub answered : Answered files before now lines reading.answering O

abbrev pub IsFurtherOn : Reading → Reading → Type 0
IsFurtherOn old new = (old.answering.lines < new.answering.lines)
    ⊎ ((new.answering.lines ≡ old.answering.lines) × (length old.begun.items < length new.begun.items))
