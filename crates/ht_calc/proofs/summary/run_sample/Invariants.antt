use Rattle.std.proofs.Common.{◌≡◌, List, length}
use Rattle.std.specs.Prelude.{◌↔◌, IsTrue, Any}
use Rattle.std.specs.Io.KnownBytes.{Appends}
use Rattle.ht_calc.specs.declared.summed.Summed.{Summed}
use Rattle.ht_calc.specs.Summaries.{AreSummed, IsSummedRefusal, summary_text}
use Rattle.ht_calc.proofs.summary.run_sample.Given as goal

abbrev pub invariant-loop-before : goal.invariant-loop-before
invariant-loop-before g l = (lines : List Summed) × record {
  are : AreSummed l.number l.budget l.sample.a l.sample.h l.sample.c 1 lines;
  many : length lines ≡ l.before;
  refused : IsTrue l.some_refused ↔ Any IsSummedRefusal lines;
  wrote : Appends (g.K.Sink.held l.fn.out) (g.K.Sink.held l.out) (summary_text lines);
  kept : g.K.Sink.faults l.out ≡ g.K.Sink.faults l.fn.out;
}
