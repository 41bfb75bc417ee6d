use Rattle.ht_ops.specs.Walks.{IsWalked}
use Rattle.ht_ops.proofs.image.Image.walk_by.Given as goal

abbrev pub invariant-loop-step : goal.invariant-loop-step
invariant-loop-step l = IsWalked l.g.shape l.self l.g.rows l._step l.image
