use Rattle.std.proofs.Common.{◌≡◌, ◌+◌, ◌∙◌, List, ℕ, [], ◌∷◌, ◌++◌, inr, take, length-append, refl, sym, ap, subst, arith}
use Rattle.std.specs.Io.KnownBytes.{Appends}
use Rattle.std.proofs.KnownBytes.{Appends-trans}
use Rattle.ht_calc.specs.Summaries.{IsSummedRefusal, summed_text, summary_text}
use Rattle.ht_calc.specs.Tables.{SinkFails}
use Rattle.ht_calc.proofs.RunLaws.{flag_more}
use Rattle.ht_calc.proofs.Streams.{wrote_all, fails_behind}
use Rattle.ht_calc.proofs.SummaryRuns.{summed_more, text_more, has_summary, all_summed, failed_behind}
use Rattle.ht_calc.proofs.summary.run_sample.Goals as goal

pub returns-in_default-line_at-clause-table : goal.returns-in_default-line_at-clause-table
returns-in_default-line_at-clause-table g c = λ words given.
    let inv = c.loop-before.invariant in
    let s = c.in-Ok.sample in
    (summary_text inv.0, inv.1.wrote, inr (inv.0, has_summary words c.args.number c.args.budget s.a s.h s.c inv.0 given c.in-Ok.ensures inv.1.are, refl))

pub returns-in_default-print_summed-clause-table : goal.returns-in_default-print_summed-clause-table
returns-in_default-print_summed-clause-table g c = λ words given.
    let inv = c.loop-before.invariant in
    let s = c.in-Ok.sample in
    (summary_text inv.0, inv.1.wrote, inr (inv.0, has_summary words c.args.number c.args.budget s.a s.h s.c inv.0 given c.in-Ok.ensures inv.1.are, refl))

pub returns-in_default-write_all-clause-table : goal.returns-in_default-write_all-clause-table
returns-in_default-write_all-clause-table g c = λ words given.
    let inv = c.loop-before.invariant in
    let s = c.in-Ok.sample in
    let lines = inv.0 in
    let line = c.in-Ok-line_at.line in
    let text = c.print_summed.new.out.items in
    let is : text ≡ summed_text line = rw c.clear.ensures.items at c.in-Ok-print_summed.ensures in
    let written = c.in_default-write_all.ensures.written in
    let front = take written.0 text in
    let puts = rw c.deref.ensures.value at written.2 in
    let fails = rw c.deref.ensures.value at written.4 in
    let are = summed_more c.args.number c.args.budget s.a s.h s.c 1 (c.loop-before.before + 1) lines line (omega (arith, inv.1.many)) inv.1.are c.in-Ok-line_at.ensures.line in (
      summary_text lines ++ front,
      Appends-trans _ _ _ (summary_text lines) front inv.1.wrote puts,
      failed_behind words c.args.number (SinkFails g.K.Sink.held g.K.Sink.faults c.args.out.now c.write_all.new.out (summary_text lines ++ front)) lines line text written.0
          (has_summary words c.args.number c.args.budget s.a s.h s.c (lines ++ line ∷ []) given c.in-Ok.ensures are) is
          (fails_behind g.K.Sink.held g.K.Sink.faults c.args.out.now c.loop-before.out c.write_all.new.out (summary_text lines) front inv.1.wrote inv.1.kept fails),
    )

pub loop-before-preserved : goal.loop-before-preserved
loop-before-preserved g c =
    let inv = c.loop-before.invariant in
    let s = c.in-Ok.sample in
    let lines = inv.0 in
    let line = c.in-Ok-line_at.line in
    let text = c.print_summed.new.out.items in
    let is : text ≡ summed_text line = rw c.clear.ensures.items at c.in-Ok-print_summed.ensures in
    let written = c.in-Ok-write_all.ensures.written in
    let all = wrote_all _ _ _ (summary_text lines) c.deref.result.now written.0 written.3 inv.1.wrote written.2 in (
      lines ++ line ∷ [],
      record {
        are = summed_more c.args.number c.args.budget s.a s.h s.c 1 (c.loop-before.before + 1) lines line (omega (arith, inv.1.many)) inv.1.are c.in-Ok-line_at.ensures.line;
        many = rw length-append (omega (arith, inv.1.many));
        refused = flag_more IsSummedRefusal lines line c.loop-before.some_refused c.refuses_too-some_refused.result inv.1.refused c.refuses_too-some_refused.ensures;
        wrote = subst (λ (o : List ℕ). Appends (g.K.Sink.held c.args.out.now) (g.K.Sink.held c.write_all.new.out) o)
            (ap (λ (t : List ℕ). summary_text lines ++ t) (c.deref.ensures.value ∙ is) ∙ sym (text_more lines line)) all;
        kept = c.in-Ok-write_all.ensures.kept ∙ inv.1.kept;
      },
    )

pub returns-clause-table : goal.returns-clause-table
returns-clause-table g c = λ words given.
    let inv = c.loop-before.invariant in
    let s = c.in-Ok.sample in (
      summary_text inv.0,
      inv.1.wrote,
      rw c.ended.ensures (all_summed words c.args.number (SinkFails g.K.Sink.held g.K.Sink.faults c.args.out.now c.loop-before.out (summary_text inv.0)) inv.0 c.loop-before.some_refused
          (has_summary words c.args.number c.args.budget s.a s.h s.c inv.0 given c.in-Ok.ensures inv.1.are) (omega (arith, inv.1.many, c.loop-before-test.false, c.loop-before.auto.before-end)) inv.1.refused),
    )
