use Rattle.std.proofs.Common.{◌≡◌, ◌+◌, length}
use Rattle.ht_quasi.specs.Kept.{HaveRoundSteps}
use Rattle.ht_quasi.proofs.kept.add_steps.Given as goal

abbrev pub invariant-loop : goal.invariant-loop
invariant-loop l = (length l.steps ≡ length l.fn.steps + l.counter) × (HaveRoundSteps l.a.shape l.a.rows l.basis.words (length l.fn.steps) l.fn.steps → HaveRoundSteps l.a.shape l.a.rows l.basis.words (length l.steps) l.steps)
