use Rattle.ht_word.specs.declared.word.Word.{Word}
use Rattle.std.proofs.Common.{◌≡◌, Some, slice_get}
use Rattle.ht_flow.proofs.HeadLaws.{IsGoingRound}
use Rattle.ht_flow.proofs.round.head_of.Given as goal

abbrev pub invariant-loop-step : goal.invariant-loop-step
invariant-loop-step l = (x : Word) → slice_get l.t.quasi.basis.words l.fn.at ≡ Some x → IsGoingRound l.t.element.shape l.t.element.rows l.t.quasi.basis.words x l._step l.stage l.head
