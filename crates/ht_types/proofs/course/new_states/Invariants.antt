use Rattle.std.proofs.Common.{◌≡◌, replicate}
use Rattle.ht_types.specs.declared.course.State.TheVariants.{New}
use Rattle.ht_types.proofs.course.new_states.Given as goal

abbrev pub invariant-loop : goal.invariant-loop
invariant-loop l = l.states.items ≡ replicate l.counter New
