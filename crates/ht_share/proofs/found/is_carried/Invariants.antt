use Rattle.std.proofs.Common.{◌≤◌, ◌<◌, ℕ, pos}
use Rattle.ht_word.specs.Words.{child}
use Rattle.ht_pair.specs.Steps.{Carries}
use Rattle.ht_share.proofs.found.is_carried.Given as goal

abbrev pub invariant-loop-letter : goal.invariant-loop-letter
invariant-loop-letter l = (a : ℕ) → 1 ≤ a → a < l.letter → Carries l.t.element.shape l.t.element.rows (pos l.steps) (child l.word a) (child l.to a)
