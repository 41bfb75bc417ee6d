-- How a run may end.
use Rattle.std.proofs.Common.{◌≡◌, ℕ, ◌<◌, ◌≤◌, inl, inr, List, [], ◌∷◌, ◌++◌, Bool, true, false, length, take, drop, refl, sym, ◌∙◌, ap, append-nil, length-append, true≢false, subst, arith}
use Rattle.std.specs.Prelude.{Option, ◌⊎◌, if◌then◌else◌}
use Rattle.std.proofs.Math.Seq.{take-length}
use Rattle.std.proofs.lemmas.Grind.{flat_map-append}
use Rattle.std.proofs.lemmas.List.{take-append-drop, length-take-le, append_cancel_left}
use Rattle.std.proofs.lemmas.List.Elements.{All-push}
use Rattle.clap.specs.Words.{Text}
use Rattle.ht_out.specs.Counts.{count_on}
use Rattle.ht_answer.specs.declared.answer.Answer.{Answer}
use Rattle.ht_answer.specs.Answers.{answer_text}
use Rattle.ht_calc.specs.declared.lines.Extent.{Extent}
use Rattle.ht_calc.specs.declared.lines.Extent.TheVariants.{Within, Ended, TooLong}
use Rattle.ht_calc.specs.declared.lines.Reading.{Reading}
use Rattle.ht_calc.specs.declared.answering.Answering.{Answering}
use Rattle.ht_calc.specs.declared.status.Status.TheVariants.{Done, SomeRefused}
use Rattle.ht_calc.specs.ScriptLines.{lines_of, whole_lines, counting_lines, IsShort, IsTooLong}
use Rattle.ht_calc.specs.Progress.{IsOneLine, IsCut, IsReady, IsRead, Calls, Origin, Answered, Stands}
use Rattle.ht_calc.specs.CommandLines.{IsBudgetOf}
use Rattle.ht_calc.specs.Runs.{output_of}
use Rattle.ht_calc.specs.Fetches.{AreAmong}
use Rattle.ht_calc.specs.Tables.{ReadBehind, Outputs, StopsBehind, Table}
use Rattle.ht_calc.proofs.Fetching.{made_later}
use Rattle.ht_calc.proofs.RunLaws.{run_asks}
use Rattle.ht_calc.proofs.LineLaws.{last_line, lines_behind, lines_now, whole_behind, whole_now, front_of_counting, within_limits}

-- the output of a run over the lines answered
outputs : (words : List Text) (files : Option (List (List ℕ × List ℕ))) (before : Origin) (now : Calls) (lines all : List (List ℕ)) (answering : Answering) (O : List ℕ)
    → IsBudgetOf words before.budget → (answered : Answered files before now lines answering O) → all ≡ lines → Outputs words all answered.fetches answered.answers O
outputs words files before now lines all answering O given answered same = record { budget = before.budget; given = given; run = rw same (answering.session, answered.run); output = answered.output }

-- what is begun is within the limits too
begun_within : (T : List ℕ) (lines : List (List ℕ)) (begun : List ℕ) → IsCut T lines begun → IsOneLine begun → IsShort begun → (0 < length begun → length lines < 65536) → ¬ IsTooLong T
begun_within T lines [] cut one short room =
    within_limits T lines (lines_now T lines [] cut ∙ append-nil lines) cut.short cut.few
begun_within T lines (b ∷ begun) cut one short room =
    let few = room (omega arith) in
    let last = lines_now T lines (b ∷ begun) cut ∙ ap (λ (rest : List (List ℕ)). lines ++ rest) (last_line (b ∷ begun) (omega arith) one) in
    within_limits T (lines ++ (b ∷ begun) ∷ []) last (All-push IsShort lines (b ∷ begun) cut.short short) (rw length-append (omega arith))

-- what was taken before the last piece
read_behind : (T O piece : List ℕ) (files : Option (List (List ℕ × List ℕ))) (before : Origin) (now : Calls) (reading : Reading) → IsReady reading → length piece ≤ 4096 → Stands Within T O files before now reading → ReadBehind (T ++ piece) T
read_behind T O piece files before now reading ready most stands = record {
  piece = piece;
  bytes = refl;
  most = most;
  within = begun_within T stands.lines reading.begun.items stands.read ready.one_line ready.short (λ some. omega (arith, ready.room some, stands.answered.count));
}

-- its whole lines are those that were answered
whole_answered : (T O : List ℕ) (files : Option (List (List ℕ × List ℕ))) (before : Origin) (now : Calls) (reading : Reading) → IsReady reading → (stands : Stands Within T O files before now reading) → whole_lines T ≡ stands.lines
whole_answered T O files before now reading ready stands = whole_now T stands.lines reading.begun.items stands.read ready.one_line ∙ append-nil stands.lines

-- no memory was found for the answers to one more piece
pub stops_before : (words : List Text) (T O piece : List ℕ) (files : Option (List (List ℕ × List ℕ))) (before : Origin) (now : Calls) (reading : Reading) → IsReady reading → length piece ≤ 4096
    → IsBudgetOf words before.budget → (stands : Stands Within T O files before now reading)
    → (front : List ℕ) × ReadBehind (T ++ piece) front × (answers : List Answer) × Outputs words (whole_lines front) stands.answered.fetches answers O
stops_before words T O piece files before now reading ready most given stands = (
  T,
  read_behind T O piece files before now reading ready most stands,
  stands.answered.answers,
  outputs words files before now stands.lines (whole_lines T) reading.answering O given stands.answered (whole_answered T O files before now reading ready stands),
)

-- and there was one fetch at most for each line
pub asked_before : (T O piece : List ℕ) (files : Option (List (List ℕ × List ℕ))) (before : Origin) (mid : Calls) (asked : ℕ) (reading : Reading) → (stands : Stands Within T O files before mid reading)
    → mid.asked ≤ asked → asked ≤ count_on mid.asked (length (lines_of (reading.begun.items ++ piece))) → AreAmong before.calls.asked asked stands.answered.fetches (length (lines_of (T ++ piece)))
asked_before T O piece files before mid asked reading stands later most =
    let more = length (lines_of (reading.begun.items ++ piece)) in
    let few = run_asks _ reading.answering.session stands.lines stands.answered.fetches stands.answered.answers stands.answered.run in
    let are = lines_behind T stands.lines reading.begun.items piece stands.read in
    subst (λ (n : ℕ). AreAmong before.calls.asked asked stands.answered.fetches n) (sym (ap length are ∙ length-append stands.lines (lines_of (reading.begun.items ++ piece))))
    (made_later before.calls.asked mid.asked asked stands.answered.fetches (length stands.lines) more stands.answered.all few later most)

-- writing failed
read_counting : (extent : Extent) (T : List ℕ) (lines : List (List ℕ)) (begun : List ℕ) → IsRead extent T lines begun → take (length lines) (counting_lines T) ≡ lines
read_counting Within T lines begun read = front_of_counting T lines (lines_of begun) (lines_now T lines begun read) read.short read.few
read_counting Ended T lines begun read = rw read.2 (take-length lines)
read_counting TooLong T lines begun read = rw read.1 (take-length lines)

read_whole : (at_end : Type 0) (extent : Extent) (T : List ℕ) (lines : List (List ℕ)) (begun : List ℕ) → (extent ≡ Ended → at_end) → IsRead extent T lines begun → (length lines ≤ length (whole_lines T)) ⊎ at_end
read_whole at_end Within T lines begun ends read =
    let whole = ap length (whole_behind T lines begun [] read) in
    let same = ap (λ (t : List ℕ). length (whole_lines t)) (append-nil T) in
    inl (omega (arith, simp length-append at whole, same))
read_whole at_end Ended T lines begun ends read = inr (ends refl)
read_whole at_end TooLong T lines begun ends read = inl read.2

pub stops_within : (words : List Text) (at_end : Type 0) (extent : Extent) (T O piece text : List ℕ) (k : ℕ) (files : Option (List (List ℕ × List ℕ))) (before : Origin) (mid now : Calls) (old new : Reading) → IsReady old → length piece ≤ 4096
    → (extent ≡ Ended → at_end) → IsBudgetOf words before.budget → (was : Stands Within T O files before mid old)
    → (stands : Stands extent (T ++ piece) (O ++ text) files (record before { done = length was.lines; written = O }) now new)
    → StopsBehind words at_end (T ++ piece) stands.answered.fetches (O ++ take k text)
stops_within words at_end extent T O piece text k files before mid now old new ready most ends given was stands =
    let done = length was.lines in
    let answers = stands.answered.answers in
    let first = take done answers in
    let others = drop done answers in
    let lines = ap length (whole_answered T O files before mid old ready was) in record {
      front = T;
      read = read_behind T O piece files before mid old ready most was;
      count = length stands.lines;
      wrote = record {
        first = first;
        others = others;
        budget = before.budget;
        given = given;
        run = rw (take-append-drop, read_counting extent (T ++ piece) stands.lines new.begun.items stands.read) (new.answering.session, stands.answered.run);
        are_done = length-take-le done answers stands.answered.reached ∙ sym lines;
        begun = take k text;
        rest = drop k text;
        written = ap (λ (o : List ℕ). o ++ take k text) (sym stands.answered.written);
        output = append_cancel_left O (output_of others) (take k text ++ drop k text)
            (ap (λ (o : List ℕ). o ++ output_of others) (sym stands.answered.written) ∙ sym (flat_map-append answer_text first others) ∙ ap output_of (take-append-drop done answers)
            ∙ sym stands.answered.output ∙ ap (λ (t : List ℕ). O ++ t) (sym (take-append-drop k text)));
      };
      whole = read_whole at_end extent (T ++ piece) stands.lines new.begun.items ends stands.read;
    }

-- reading failed
pub fails : (words : List Text) (T O : List ℕ) (files : Option (List (List ℕ × List ℕ))) (before : Origin) (now : Calls) (reading : Reading) → IsReady reading
    → IsBudgetOf words before.budget → (stands : Stands Within T O files before now reading) → (¬ IsTooLong T) × (answers : List Answer) × Outputs words (whole_lines T) stands.answered.fetches answers O
fails words T O files before now reading ready given stands = (
  begun_within T stands.lines reading.begun.items stands.read ready.one_line ready.short (λ some. omega (arith, ready.room some, stands.answered.count)),
  stands.answered.answers,
  outputs words files before now stands.lines (whole_lines T) reading.answering O given stands.answered (whole_answered T O files before now reading ready stands),
)

-- the script ended
pub ends : (words : List Text) (at_end source_fails sink_fails are_all are_some : Type 0) (T O : List ℕ) (files : Option (List (List ℕ × List ℕ))) (before : Origin) (now : Calls) (reading : Reading) (refused : Bool) → at_end → are_all
    → reading.answering.some_refused ≡ refused → IsBudgetOf words before.budget → (stands : Stands Ended T O files before now reading)
    → Table words at_end source_fails sink_fails are_all are_some T stands.answered.fetches O (if refused then SomeRefused else Done)
ends words at_end source_fails sink_fails are_all are_some T O files before now reading true end all is given stands = (
  end,
  all,
  stands.read.0,
  stands.answered.answers,
  outputs words files before now stands.lines (lines_of T) reading.answering O given stands.answered stands.read.1,
  stands.answered.refusal.0 is,
)
ends words at_end source_fails sink_fails are_all are_some T O files before now reading false end all is given stands = (
  end,
  all,
  stands.read.0,
  stands.answered.answers,
  outputs words files before now stands.lines (lines_of T) reading.answering O given stands.answered stands.read.1,
  λ some. true≢false (sym (stands.answered.refusal.1 some) ∙ is),
)

-- the script is too long
pub goes_over : (words : List Text) (T O piece all : List ℕ) (files : Option (List (List ℕ × List ℕ))) (before : Origin) (mid now : Calls) (old new : Reading) → IsReady old → length piece ≤ 4096 → IsBudgetOf words before.budget
    → Stands Within T O files before mid old → (stands : Stands TooLong (T ++ piece) all files before now new)
    → IsTooLong (T ++ piece) × (front : List ℕ) × ReadBehind (T ++ piece) front × (answers : List Answer) × Outputs words (counting_lines (T ++ piece)) stands.answered.fetches answers all
goes_over words T O piece all files before mid now old new ready most given was stands = (
  stands.read.0,
  T,
  read_behind T O piece files before mid old ready most was,
  stands.answered.answers,
  outputs words files before now stands.lines (counting_lines (T ++ piece)) new.answering all given stands.answered stands.read.1,
)
