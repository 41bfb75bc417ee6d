-- What a run took and wrote, by its status: T the bytes taken from the source, O the bytes added to
-- the sink, and the fetches of the lines that were answered. Any read may fail, where no write has
-- failed, and then all answers to whole lines of T are in O: so they are written before each read.
--
--     Took .. bytes                              these bytes were taken, and the number of bytes taken went up by theirs
--     SourceFails left taken faults old new T    at some time T was taken and there was no fault; then the count of faults rose, and nothing more was taken
--     SinkFails held faults old new O            at some time O was written and there was no fault; then the count of faults rose, and nothing more was written
--     ReadBehind T front                         T is a front that isn't too long, and one more piece of at most 4,096 bytes
--     Outputs words lines fetches answers O      O is the output of a run over these lines, by the budget that the words give
--     WroteFront words lines done fetches O      O is the output of the first answers of such a run, as many as `done` says, and a beginning of the output of the others
--     StopsBehind words at_end T fetches O       T is a front and one more piece; O has the answers to the whole lines of the front, and a beginning of the output of the others, in a run over the first lines of T, which count and are whole, or all was read
--     Table words .. T fetches O status          what holds at this status; the fetches are all that were made, but where no memory was found; where none was found for the words, nothing was taken, written or fetched
use Rattle.std.specs.Prelude.{◌≡◌, ℕ, ◌≤◌, ◌⊎◌, List, [], ◌++◌, length, take, Option, Any}
use Rattle.std.specs.Io.KnownBytes.{Consumes, Keeps, Appends}
use Rattle.clap.specs.Words.{Text}
use Rattle.ht_out.specs.Counts.{count_on, Rose}
use Rattle.ht_answer.specs.declared.answer.Answer.{Answer}
use Rattle.ht_calc.specs.declared.status.Status.{Status}
use Rattle.ht_calc.specs.declared.status.Status.TheVariants.{Done, SomeRefused, BadWords, ReadFault, WriteFault, NoMemory, TooLong}
use Rattle.ht_answer.specs.Answers.{IsRefusal}
use Rattle.ht_calc.specs.CommandLines.{IsBudgetOf}
use Rattle.ht_calc.specs.Fetches.{Fetched}
use Rattle.ht_calc.specs.Runs.{RunsBy, output_of}
use Rattle.ht_calc.specs.ScriptLines.{lines_of, whole_lines, counting_lines, IsTooLong}

pub record Took (left_old left_new : Option (List ℕ)) (taken_old taken_new : ℕ) (bytes : List ℕ) : Type 0 where
  pub left : Consumes left_old left_new bytes
  pub count : taken_new ≡ count_on taken_old (length bytes)

pub record SourceFails {S : Type 0} (left : S → Option (List ℕ)) (taken faults : S → ℕ) (old new : S) (T : List ℕ) : Type 0 where
  pub before : S
  pub took : Took (left old) (left before) (taken old) (taken before) T
  pub none : faults before ≡ faults old
  pub rose : Rose (faults before) (faults new)
  pub kept : Keeps (left before) (left new)
  pub count : taken new ≡ taken before

pub record SinkFails {K : Type 0} (held : K → Option (List ℕ)) (faults : K → ℕ) (old new : K) (O : List ℕ) : Type 0 where
  pub before : K
  pub wrote : Appends (held old) (held before) O
  pub none : faults before ≡ faults old
  pub rose : Rose (faults before) (faults new)
  pub kept : Keeps (held before) (held new)

pub record ReadBehind (T front : List ℕ) : Type 0 where
  pub piece : List ℕ
  pub bytes : T ≡ front ++ piece
  pub most : length piece ≤ 4096
  pub within : ¬ IsTooLong front

pub record Outputs (words : List Text) (lines : List (List ℕ)) (fetches : List Fetched) (answers : List Answer) (O : List ℕ) : Type 0 where
  pub budget : ℕ
  pub given : IsBudgetOf words budget
  pub run : RunsBy budget lines fetches answers
  pub output : O ≡ output_of answers

pub record WroteFront (words : List Text) (lines : List (List ℕ)) (done : ℕ) (fetches : List Fetched) (O : List ℕ) : Type 0 where
  pub first : List Answer
  pub others : List Answer
  pub budget : ℕ
  pub given : IsBudgetOf words budget
  pub run : RunsBy budget lines fetches (first ++ others)
  pub are_done : length first ≡ done
  pub begun : List ℕ
  pub rest : List ℕ
  pub written : O ≡ output_of first ++ begun
  pub output : output_of others ≡ begun ++ rest

pub record StopsBehind (words : List Text) (at_end : Type 0) (T : List ℕ) (fetches : List Fetched) (O : List ℕ) : Type 0 where
  pub front : List ℕ
  pub read : ReadBehind T front
  pub count : ℕ
  pub wrote : WroteFront words (take count (counting_lines T)) (length (whole_lines front)) fetches O
  pub whole : (count ≤ length (whole_lines T)) ⊎ at_end

abbrev pub Table : List Text → Type 0 → Type 0 → Type 0 → Type 0 → Type 0 → List ℕ → List Fetched → List ℕ → Status → Type 0
Table words at_end source_fails sink_fails are_all are_some T fetches O Done = at_end × are_all × (¬ IsTooLong T) × (answers : List Answer) × Outputs words (lines_of T) fetches answers O × (¬ Any IsRefusal answers)
Table words at_end source_fails sink_fails are_all are_some T fetches O SomeRefused = at_end × are_all × (¬ IsTooLong T) × (answers : List Answer) × Outputs words (lines_of T) fetches answers O × Any IsRefusal answers
Table words at_end source_fails sink_fails are_all are_some T fetches O BadWords = are_all × (T ≡ []) × (O ≡ []) × (fetches ≡ [])
Table words at_end source_fails sink_fails are_all are_some T fetches O ReadFault = source_fails × are_all × (¬ IsTooLong T) × (answers : List Answer) × Outputs words (whole_lines T) fetches answers O
Table words at_end source_fails sink_fails are_all are_some T fetches O WriteFault = sink_fails × are_all × StopsBehind words at_end T fetches O
Table words at_end source_fails sink_fails are_all are_some T fetches O NoMemory = (are_some × (front : List ℕ) × ReadBehind T front × (answers : List Answer) × Outputs words (whole_lines front) fetches answers O)
    ⊎ (are_all × (T ≡ []) × (O ≡ []) × (fetches ≡ []))
Table words at_end source_fails sink_fails are_all are_some T fetches O TooLong = are_all × IsTooLong T × (front : List ℕ) × ReadBehind T front × (answers : List Answer) × Outputs words (counting_lines T) fetches answers O
