use Rattle.std.proofs.Common.{All, take}
use Rattle.ht_script.specs.Names.{IsFileByte}
use Rattle.ht_script.proofs.file.count_file_bytes.Given as goal

abbrev pub invariant-loop-i : goal.invariant-loop-i
invariant-loop-i l = All IsFileByte (take l.i l.bytes)
