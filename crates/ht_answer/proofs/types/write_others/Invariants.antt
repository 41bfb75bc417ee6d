use Rattle.std.proofs.Common.{◌≡◌, ◌++◌, take}
use Rattle.std.specs.List.{flat_map, zip}
use Rattle.ht_answer.specs.KindTexts.{later_entry_text}
use Rattle.ht_answer.proofs.types.write_others.Given as goal

abbrev pub invariant-loop-place : goal.invariant-loop-place
invariant-loop-place l = l.out.items ≡ l.fn.out.items ++ flat_map (later_entry_text l.all) (take l.place (zip l.words l.kinds))
