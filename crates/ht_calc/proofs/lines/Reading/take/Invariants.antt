use Rattle.std.proofs.Common.{◌≡◌, ◌≤◌, ◌<◌, ◌+◌, ◌++◌, List, ℕ, length}
use Rattle.std.specs.Prelude.{◌⊎◌}
use Rattle.ht_calc.specs.declared.lines.Extent.TheVariants.{Within}
use Rattle.ht_out.specs.Counts.{count_on}
use Rattle.ht_calc.specs.ScriptLines.{lines_of}
use Rattle.ht_calc.specs.Progress.{IsReady, Origin, Stands}
use Rattle.ht_calc.proofs.lines.Reading.take.Given as goal

abbrev pub invariant-lines : goal.invariant-lines
invariant-lines g l = record {
  stands : (T O : List ℕ) (before : Origin) → Stands Within T (O ++ l.fn.text.items) (g.L.Library.files l.fn.files) before (record { faults = g.L.Library.faults l.fn.files; asked = g.L.Library.asked l.fn.files }) l.fn.self
      → (U : List ℕ) × (U ++ l.rest ≡ T ++ l.fn.bytes) × Stands Within U (O ++ l.text.items) (g.L.Library.files l.fn.files) before (record { faults = g.L.Library.faults l.files; asked = g.L.Library.asked l.files }) l.self;
  ready : IsReady l.self;
  on : (l.fn.self.answering.lines < l.self.answering.lines) ⊎ ((l.self ≡ l.fn.self) × (l.rest ≡ l.fn.bytes));
  files : g.L.Library.files l.files ≡ g.L.Library.files l.fn.files;
  later : g.L.Library.faults l.fn.files ≤ g.L.Library.faults l.files;
  asked : g.L.Library.asked l.fn.files ≤ g.L.Library.asked l.files;
  few : (n : ℕ) × (g.L.Library.asked l.files ≤ count_on (g.L.Library.asked l.fn.files) n)
      × (n + length (lines_of (l.self.begun.items ++ l.rest)) ≤ length (lines_of (l.fn.self.begun.items ++ l.fn.bytes)));
}

abbrev pub decreases-lines : goal.decreases-lines
decreases-lines g l = length l.rest
