use Rattle.std.proofs.Common.{◌≡◌, ◌≤◌, length}
use Rattle.ht_word.specs.Words.{◌·◌}
use Rattle.ht_share.specs.PondWalks.{ComesTo, IsNone, IsSettled}
use Rattle.ht_share.proofs.search.pond_of.Given as goal

abbrev pub invariant-loop-step : goal.invariant-loop-step
invariant-loop-step l = record {
  steps : l.walk.steps ≡ l._step;
  there : ComesTo l.t.element.shape l.t.element.rows l.t.quasi.basis.words (l.word · l.exit.letters) l.walk;
  none : IsNone l.t.element.shape l.t.element.rows l.t.quasi.basis.words l.word l.walk.steps;
  unsettled : 1 ≤ l.walk.steps → ¬ IsSettled l.t.element.shape l.t.element.rows l.t.quasi.basis.words (length l.exit.letters) l.walk;
}
