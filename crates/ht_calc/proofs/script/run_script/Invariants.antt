use Rattle.std.proofs.Common.{◌≡◌, ◌-◌, ◌*◌, List, ℕ, [], length}
use Rattle.std.specs.Io.KnownBytes.{Appends}
use Rattle.ht_calc.specs.declared.lines.Extent.TheVariants.{Within}
use Rattle.ht_calc.specs.Progress.{IsReady, Stands}
use Rattle.ht_calc.specs.Tables.{Took}
use Rattle.ht_calc.proofs.script.run_script.Given as goal

abbrev pub invariant-read : goal.invariant-read
invariant-read g l = (T : List ℕ) × (O : List ℕ) × record {
  took : Took (g.S.Source.left l.fn.script) (g.S.Source.left l.script) (g.S.Source.taken l.fn.script) (g.S.Source.taken l.script) T;
  wrote : Appends (g.K.Sink.held l.fn.out) (g.K.Sink.held l.out) O;
  stands : Stands Within T O (g.L.Library.files l.fn.files) (record {
    budget = l.fn.budget;
    calls = record { faults = g.L.Library.faults l.fn.files; asked = g.L.Library.asked l.fn.files };
    done = 0;
    written = [];
  }) (record { faults = g.L.Library.faults l.files; asked = g.L.Library.asked l.files }) l.reading;
  ready : IsReady l.reading;
  source_kept : g.S.Source.faults l.script ≡ g.S.Source.faults l.fn.script;
  sink_kept : g.K.Sink.faults l.out ≡ g.K.Sink.faults l.fn.out;
  files : g.L.Library.files l.files ≡ g.L.Library.files l.fn.files;
  buffer : length l.buffer ≡ 4096;
}

abbrev pub decreases-read : goal.decreases-read
decreases-read g l = (65537 - l.reading.answering.lines) * 65537 - length l.reading.begun.items
