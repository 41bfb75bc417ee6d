use Rattle.std.proofs.Common.{◌≡◌, ◌++◌, take}
use Rattle.std.specs.List.{flat_map}
use Rattle.ht_answer.specs.OrbitTexts.{later_pond_text}
use Rattle.ht_answer.proofs.orbit.write_others.Given as goal

abbrev pub invariant-loop-pond : goal.invariant-loop-pond
invariant-loop-pond l = l.out.items ≡ l.fn.out.items ++ flat_map later_pond_text (take l.pond-index l.ponds)
