use Rattle.std.proofs.Common.{◌≡◌, ◌+◌, ◌*◌, ℕ, length, drop}
use Rattle.ht_cycles.specs.Cycles.{AreSeeds}
use Rattle.ht_cycles.proofs.matches.expanded.Given as goal

abbrev pub invariant-loop-place : goal.invariant-loop-place
invariant-loop-place l = record {
  size : length l.list ≡ length l.words + l.place * l.t.element.shape.n;
  seeds : (m : ℕ) → AreSeeds l.t.element.shape l.t.element.rows l.t.quasi.basis.words m l.words → AreSeeds l.t.element.shape l.t.element.rows l.t.quasi.basis.words m (drop l.place l.list);
}
