use Rattle.std.proofs.Common.{◌≡◌, ◌++◌, List, drop}
use Rattle.ht_pair.specs.declared.row.Row.{Row}
use Rattle.ht_cycles.specs.Cycles.{AreRounds}
use Rattle.ht_cycles.proofs.matches.add_rounds.Given as goal

abbrev pub invariant-loop-place : goal.invariant-loop-place
invariant-loop-place l = record {
  added : List Row;
  is : l.rows ≡ l.fn.rows ++ added;
  rounds : (others : List Row) → AreRounds l.f.shape l.f.rows l.g.rows l.m (drop l.place l.from) (drop l.place l.to) others → AreRounds l.f.shape l.f.rows l.g.rows l.m l.from l.to (added ++ others);
}
