use Rattle.std.proofs.Common.{◌≡◌, ◌++◌, List, pos}
use Rattle.ht_pair.specs.Steps.{Carries}
use Rattle.ht_pair.specs.declared.row.Row.{Row}
use Rattle.ht_cycles.specs.Cycles.{IsMatchedRound}
use Rattle.ht_cycles.proofs.matches.add_round.Given as goal

abbrev pub invariant-loop : goal.invariant-loop
invariant-loop l = record {
  first : Carries l.f.shape l.f.rows (pos l.counter) l.from l.u;
  second : Carries l.f.shape l.g.rows (pos l.counter) l.to l.v;
  added : List Row;
  is : l.rows ≡ l.fn.rows ++ added;
  round : IsMatchedRound l.f.shape l.f.rows l.g.rows l.counter l.from l.to added;
}
