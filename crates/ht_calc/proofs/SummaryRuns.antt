-- Summaries, line by line.
use Rattle.std.proofs.Common.{◌≡◌, ◌+◌, ℕ, suc, List, [], ◌∷◌, ◌++◌, Bool, true, false, refl, sym, ap, ◌∙◌, subst, take, drop, length, append-nil, arith, true≢false}
use Rattle.std.specs.Prelude.{Any, IsTrue, ◌↔◌, if◌then◌else◌}
use Rattle.std.proofs.lemmas.Grind.{flat_map-append}
use Rattle.clap.specs.Words.{Text}
use Rattle.ht_pair.specs.Elements.{ElementValue}
use Rattle.ht_sample.specs.Samples.{IsSample}
use Rattle.ht_calc.specs.declared.status.Status.TheVariants.{Done, SomeRefused, WriteFault}
use Rattle.ht_calc.specs.declared.summed.Summed.{Summed}
use Rattle.ht_calc.specs.CommandLines.{IsBudgetOf}
use Rattle.ht_calc.specs.Summaries.{IsSummed, AreSummed, HasSummary, IsSummedRefusal, summed_text, summary_text, SummaryTable}
use Rattle.ht_calc.proofs.Streams.{parted}

-- one more line of a summary
pub summed_more : (number budget : ℕ) (a h c : ElementValue) (place k : ℕ) (lines : List Summed) (line : Summed) → k ≡ place + length lines
    → AreSummed number budget a h c place lines → IsSummed number budget a h c k line → AreSummed number budget a h c place (lines ++ line ∷ [])
summed_more number budget a h c place k [] line at are is = (subst (λ (n : ℕ). IsSummed number budget a h c n line) (omega arith) is, tt)
summed_more number budget a h c place k (first ∷ lines) line at are is = (are.0, summed_more number budget a h c (suc place) k lines line (omega arith) are.1 is)

-- the text of one more line
pub text_more : (lines : List Summed) (line : Summed) → summary_text (lines ++ line ∷ []) ≡ summary_text lines ++ summed_text line
text_more lines line = flat_map-append summed_text lines (line ∷ []) ∙ ap (λ (o : List ℕ). summary_text lines ++ o) (append-nil (summed_text line))

-- the first lines of a summary, by the words
pub has_summary : (words : List Text) (number budget : ℕ) (a h c : ElementValue) (lines : List Summed) → IsBudgetOf words budget → IsSample number a h c
    → AreSummed number budget a h c 1 lines → HasSummary words number lines
has_summary words number budget a h c lines given sample are = record { budget = budget; given = given; a = a; h = h; c = c; sample = sample; are_summed = are }

-- all six lines were written
pub all_summed : (words : List Text) (number : ℕ) (sink_fails : Type 0) (lines : List Summed) (some : Bool) → HasSummary words number lines → length lines ≡ 6
    → IsTrue some ↔ Any IsSummedRefusal lines → SummaryTable words number sink_fails (summary_text lines) (if some then SomeRefused else Done)
all_summed words number sink_fails lines true has six refused = (lines, has, six, refl, refused.0 refl)
all_summed words number sink_fails lines false has six refused = (lines, has, six, refl, λ some. true≢false (sym (refused.1 some)))

-- a front of one more line was written
pub failed_behind : (words : List Text) (number : ℕ) (sink_fails : Type 0) (lines : List Summed) (line : Summed) (text : List ℕ) (k : ℕ) → HasSummary words number (lines ++ line ∷ [])
    → text ≡ summed_text line → sink_fails → SummaryTable words number sink_fails (summary_text lines ++ take k text) WriteFault
failed_behind words number sink_fails lines line text k has is fails =
    (fails, lines ++ line ∷ [], has, drop k text, text_more lines line ∙ ap (λ (t : List ℕ). summary_text lines ++ t) (sym is) ∙ parted (summary_text lines) text k)
