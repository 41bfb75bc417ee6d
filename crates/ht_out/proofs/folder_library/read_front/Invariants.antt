use Rattle.std.proofs.Common.{◌≡◌, ◌≤◌, ◌+◌, ◌-◌, length, vec_len}
use Rattle.std.specs.Io.KnownBytes.{Consumes}
use Rattle.ht_out.proofs.folder_library.read_front.Given as goal

abbrev pub invariant-read : goal.invariant-read
invariant-read g l = record {
  bytes : Consumes (g.S.Source.left l.fn.source) (g.S.Source.left l.source) l.bytes.items;
  faults : g.S.Source.faults l.source ≡ g.S.Source.faults l.fn.source;
  within : vec_len l.bytes ≤ l.most + 1;
  buffer : length l.buffer ≡ 4096;
}

abbrev pub decreases-read : goal.decreases-read
decreases-read g l = (l.most + 1) - vec_len l.bytes
