use Rattle.std.proofs.Common.{◌≡◌, ◌++◌, take}
use Rattle.std.specs.List.{flat_map}
use Rattle.ht_answer.specs.OrderTexts.{spaced_cycles_text}
use Rattle.ht_answer.proofs.profile.write_others.Given as goal

abbrev pub invariant-loop-entry : goal.invariant-loop-entry
invariant-loop-entry l = l.out.items ≡ l.fn.out.items ++ flat_map spaced_cycles_text (take l.entry-index l.entries)
