use Rattle.std.proofs.Common.{◌≡◌, ◌≤◌, inl, [], ◌++◌, length, take, sym, ◌∙◌, subst, arith, length-take}
use Rattle.std.proofs.KnownBytes.{Appends-trans}
use Rattle.std.specs.Io.KnownBytes.{IsAtEnd}
use Rattle.ht_calc.specs.declared.lines.Extent.{Extent}
use Rattle.ht_calc.specs.declared.lines.Extent.TheVariants.{Ended}
use Rattle.ht_calc.specs.Fetches.{AreAll, AreAmong}
use Rattle.ht_calc.specs.ScriptLines.{lines_of}
use Rattle.ht_calc.specs.Progress.{Calls, Origin, Stands}
use Rattle.ht_calc.specs.Tables.{SourceFails, SinkFails}
use Rattle.ht_calc.proofs.Ends.{asked_before, stops_before, stops_within, fails, ends, goes_over}
use Rattle.ht_calc.proofs.Fetching.{asked_later}
use Rattle.ht_calc.proofs.Standing.{stands_anew, stands_told, stands_so_far}
use Rattle.ht_calc.proofs.Streams.{took_more, took_kept, wrote_all, fails_behind, read_none}
use Rattle.ht_calc.proofs.script.run_script.Goals as goal

pub returns-in_default-clause-table : goal.returns-in_default-clause-table
returns-in_default-clause-table g c = λ words given.
    let inv = c.read.invariant in
    let failed = fails words inv.0 inv.1 _ _ _ c.read.reading inv.2.ready given inv.2.stands in
    let all = inv.2.stands.answered.all in (
      inv.0,
      inv.1,
      inv.2.stands.answered.fetches,
      took_kept _ _ _ _ _ _ inv.0 inv.2.took c.in_default.ensures.bytes c.in_default.ensures.taken,
      inv.2.wrote,
      inv.2.stands.answered.fetched,
      (
        record {
          before = c.read.script;
          took = inv.2.took;
          none = inv.2.source_kept;
          rose = c.in_default.ensures.cause.failed;
          kept = c.in_default.ensures.bytes;
          count = c.in_default.ensures.taken;
        },
        all,
        failed.0,
        failed.1,
        failed.2,
      ),
    )

pub returns-in_default-take-clause-table : goal.returns-in_default-take-clause-table
returns-in_default-take-clause-table g c = λ words given.
    let inv = c.read.invariant in
    let T = inv.0 in
    let O = inv.1 in
    let piece = take c.in-Ok.count c.next.new.buf in
    let told = g.L.Library.files c.args.files.now in
    let before : Origin = record {
      budget = c.args.budget;
      calls = record { faults = g.L.Library.faults c.args.files.now; asked = g.L.Library.asked c.args.files.now };
      done = 0;
      written = [];
    } in
    let mid : Calls = record { faults = g.L.Library.faults c.read.files; asked = g.L.Library.asked c.read.files } in
    let now : Calls = record { faults = g.L.Library.faults c.take.new.files; asked = g.L.Library.asked c.take.new.files } in
    let took = took_more _ _ _ _ _ _ T c.next.new.buf c.in-Ok.count inv.2.took c.in-Ok.ensures.bytes.0 c.in-Ok.ensures.bound.0 c.in-Ok.ensures.taken in
    let most : length piece ≤ 4096 = simp length-take (omega (arith, inv.2.buffer)) in
    let stops = stops_before words T O piece told before mid c.read.reading inv.2.ready most given inv.2.stands in (
      T ++ piece,
      O,
      inv.2.stands.answered.fetches,
      took,
      inv.2.wrote,
      asked_later told before.calls.faults mid.faults now.faults inv.2.stands.answered.fetches inv.2.stands.answered.fetched c.take.ensures.later,
      inl (asked_before T O piece told before mid now.asked c.read.reading inv.2.stands c.take.ensures.asked.0 c.take.ensures.asked.1, stops.0, stops.1, stops.2, stops.3),
    )

pub returns-in_default-write_all-clause-table : goal.returns-in_default-write_all-clause-table
returns-in_default-write_all-clause-table g c = λ words given.
    let inv = c.read.invariant in
    let T = inv.0 in
    let O = inv.1 in
    let piece = take c.in-Ok.count c.next.new.buf in
    let told = g.L.Library.files c.args.files.now in
    let before : Origin = record {
      budget = c.args.budget;
      calls = record { faults = g.L.Library.faults c.args.files.now; asked = g.L.Library.asked c.args.files.now };
      done = 0;
      written = [];
    } in
    let mid : Calls = record { faults = g.L.Library.faults c.read.files; asked = g.L.Library.asked c.read.files } in
    let now : Calls = record { faults = g.L.Library.faults c.take.new.files; asked = g.L.Library.asked c.take.new.files } in
    let took = took_more _ _ _ _ _ _ T c.next.new.buf c.in-Ok.count inv.2.took c.in-Ok.ensures.bytes.0 c.in-Ok.ensures.bound.0 c.in-Ok.ensures.taken in
    let most : length piece ≤ 4096 = simp length-take (omega (arith, inv.2.buffer)) in
    let so_far : Origin = record before { done = length inv.2.stands.lines; written = O } in
    let here = stands_anew T O c.clear.new.self.items told (g.L.Library.files c.read.files) so_far mid c.read.reading c.clear.ensures.items (sym inv.2.files) (stands_so_far T O told before mid c.read.reading inv.2.stands) in
    let text = c.take.new.text.items in
    let held = stands_told c.in-Ok-take.extent (T ++ piece) (O ++ text) (g.L.Library.files c.read.files) told so_far now c.take.new.self inv.2.files
    (c.in-Ok-take.ensures.stands T O so_far here) in
    let written = c.in_default-write_all.ensures.written in
    let front = take written.0 text in
    let at_end = λ (e : c.in-Ok-take.extent ≡ Ended). c.in-Ok.ensures.bytes.1 (read_none c.next.new.buf c.in-Ok.count c.in-Ok.ensures.bound.0 (c.in-Ok-take.ensures.ended e)) (omega (arith, inv.2.buffer)) in
    let puts = rw c.deref.ensures.value at written.2 in
    let fails_so = rw c.deref.ensures.value at written.4 in (
      T ++ piece,
      O ++ front,
      held.answered.fetches,
      took,
      Appends-trans _ _ _ O front inv.2.wrote puts,
      held.answered.fetched,
      (
        fails_behind g.K.Sink.held g.K.Sink.faults c.args.out.now c.read.out c.write_all.new.out O front inv.2.wrote inv.2.sink_kept fails_so,
        held.answered.all,
        stops_within words (IsAtEnd (g.S.Source.left c.next.new.self)) c.in-Ok-take.extent T O piece text written.0 told before mid now c.read.reading c.take.new.self inv.2.ready most at_end given inv.2.stands held,
      ),
    )

pub read-preserved : goal.read-preserved
read-preserved g c =
    let inv = c.read.invariant in
    let T = inv.0 in
    let O = inv.1 in
    let piece = take c.in-Ok.count c.next.new.buf in
    let told = g.L.Library.files c.args.files.now in
    let before : Origin = record {
      budget = c.args.budget;
      calls = record { faults = g.L.Library.faults c.args.files.now; asked = g.L.Library.asked c.args.files.now };
      done = 0;
      written = [];
    } in
    let mid : Calls = record { faults = g.L.Library.faults c.read.files; asked = g.L.Library.asked c.read.files } in
    let now : Calls = record { faults = g.L.Library.faults c.take.new.files; asked = g.L.Library.asked c.take.new.files } in
    let took = took_more _ _ _ _ _ _ T c.next.new.buf c.in-Ok.count inv.2.took c.in-Ok.ensures.bytes.0 c.in-Ok.ensures.bound.0 c.in-Ok.ensures.taken in
    let here = stands_anew T O c.clear.new.self.items told (g.L.Library.files c.read.files) before mid c.read.reading c.clear.ensures.items (sym inv.2.files) inv.2.stands in
    let text = c.take.new.text.items in
    let held = stands_told c.in-Ok-take.extent (T ++ piece) (O ++ text) (g.L.Library.files c.read.files) told before now c.take.new.self inv.2.files
    (c.in-Ok-take.ensures.stands T O before here) in
    let written = c.in-Ok-write_all.ensures.written in
    let on = c.in-Ok-take.ensures.ready c.in-Within.is in (
      T ++ piece,
      O ++ text,
      record {
        took = took;
        wrote = rw (← c.deref.ensures.value) (wrote_all _ _ _ O c.deref.result.now written.0 written.3 inv.2.wrote written.2);
        stands = subst (λ (e : Extent). Stands e (T ++ piece) (O ++ text) told before now c.take.new.self) c.in-Within.is held;
        ready = on.0;
        source_kept = c.in-Ok.ensures.cause.kept ∙ inv.2.source_kept;
        sink_kept = c.in-Ok-write_all.ensures.kept ∙ inv.2.sink_kept;
        files = c.in-Ok-take.ensures.files ∙ inv.2.files;
        buffer = omega (arith, inv.2.buffer);
      },
    )

pub returns-in-Ended-clause-table : goal.returns-in-Ended-clause-table
returns-in-Ended-clause-table g c = λ words given.
    let inv = c.read.invariant in
    let T = inv.0 in
    let O = inv.1 in
    let piece = take c.in-Ok.count c.next.new.buf in
    let told = g.L.Library.files c.args.files.now in
    let before : Origin = record {
      budget = c.args.budget;
      calls = record { faults = g.L.Library.faults c.args.files.now; asked = g.L.Library.asked c.args.files.now };
      done = 0;
      written = [];
    } in
    let mid : Calls = record { faults = g.L.Library.faults c.read.files; asked = g.L.Library.asked c.read.files } in
    let now : Calls = record { faults = g.L.Library.faults c.take.new.files; asked = g.L.Library.asked c.take.new.files } in
    let took = took_more _ _ _ _ _ _ T c.next.new.buf c.in-Ok.count inv.2.took c.in-Ok.ensures.bytes.0 c.in-Ok.ensures.bound.0 c.in-Ok.ensures.taken in
    let here = stands_anew T O c.clear.new.self.items told (g.L.Library.files c.read.files) before mid c.read.reading c.clear.ensures.items (sym inv.2.files) inv.2.stands in
    let text = c.take.new.text.items in
    let held = stands_told c.in-Ok-take.extent (T ++ piece) (O ++ text) (g.L.Library.files c.read.files) told before now c.take.new.self inv.2.files
    (c.in-Ok-take.ensures.stands T O before here) in
    let written = c.in-Ok-write_all.ensures.written in
    let ended = subst (λ (e : Extent). Stands e (T ++ piece) (O ++ text) told before now c.take.new.self) c.in-Ended.is held in
    let at_end = c.in-Ok.ensures.bytes.1 (read_none c.next.new.buf c.in-Ok.count c.in-Ok.ensures.bound.0 (c.in-Ok-take.ensures.ended c.in-Ended.is)) (omega (arith, inv.2.buffer)) in (
      T ++ piece,
      O ++ text,
      ended.answered.fetches,
      took,
      rw (← c.deref.ensures.value) (wrote_all _ _ _ O c.deref.result.now written.0 written.3 inv.2.wrote written.2),
      ended.answered.fetched,
      rw c.ended.ensures (ends words (IsAtEnd (g.S.Source.left c.next.new.self))
          (SourceFails g.S.Source.left g.S.Source.taken g.S.Source.faults c.args.script.now c.next.new.self (T ++ piece))
          (SinkFails g.K.Sink.held g.K.Sink.faults c.args.out.now c.write_all.new.out (O ++ text))
          (AreAll before.calls.asked now.asked ended.answered.fetches) (AreAmong before.calls.asked now.asked ended.answered.fetches (length (lines_of (T ++ piece))))
          (T ++ piece) (O ++ text) told before now c.take.new.self c.some_refused.result at_end ended.answered.all (sym c.some_refused.ensures) given ended),
    )

pub returns-in-TooLong-clause-table : goal.returns-in-TooLong-clause-table
returns-in-TooLong-clause-table g c = λ words given.
    let inv = c.read.invariant in
    let T = inv.0 in
    let O = inv.1 in
    let piece = take c.in-Ok.count c.next.new.buf in
    let told = g.L.Library.files c.args.files.now in
    let before : Origin = record {
      budget = c.args.budget;
      calls = record { faults = g.L.Library.faults c.args.files.now; asked = g.L.Library.asked c.args.files.now };
      done = 0;
      written = [];
    } in
    let mid : Calls = record { faults = g.L.Library.faults c.read.files; asked = g.L.Library.asked c.read.files } in
    let now : Calls = record { faults = g.L.Library.faults c.take.new.files; asked = g.L.Library.asked c.take.new.files } in
    let took = took_more _ _ _ _ _ _ T c.next.new.buf c.in-Ok.count inv.2.took c.in-Ok.ensures.bytes.0 c.in-Ok.ensures.bound.0 c.in-Ok.ensures.taken in
    let most : length piece ≤ 4096 = simp length-take (omega (arith, inv.2.buffer)) in
    let here = stands_anew T O c.clear.new.self.items told (g.L.Library.files c.read.files) before mid c.read.reading c.clear.ensures.items (sym inv.2.files) inv.2.stands in
    let text = c.take.new.text.items in
    let held = stands_told c.in-Ok-take.extent (T ++ piece) (O ++ text) (g.L.Library.files c.read.files) told before now c.take.new.self inv.2.files
    (c.in-Ok-take.ensures.stands T O before here) in
    let written = c.in-Ok-write_all.ensures.written in
    let over = subst (λ (e : Extent). Stands e (T ++ piece) (O ++ text) told before now c.take.new.self) c.in-TooLong.is held in
    let ends_so = goes_over words T O piece (O ++ text) told before mid now c.read.reading c.take.new.self inv.2.ready most given inv.2.stands over in (
      T ++ piece,
      O ++ text,
      over.answered.fetches,
      took,
      rw (← c.deref.ensures.value) (wrote_all _ _ _ O c.deref.result.now written.0 written.3 inv.2.wrote written.2),
      over.answered.fetched,
      (over.answered.all, ends_so.0, ends_so.1, ends_so.2, ends_so.3, ends_so.4),
    )
