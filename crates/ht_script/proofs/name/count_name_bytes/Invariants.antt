use Rattle.std.proofs.Common.{All, take}
use Rattle.ht_script.specs.Names.{IsNameByte}
use Rattle.ht_script.proofs.name.count_name_bytes.Given as goal

abbrev pub invariant-loop-i : goal.invariant-loop-i
invariant-loop-i l = All IsNameByte (take l.i l.bytes)
