use Rattle.std.proofs.Common.{List, All, drop}
use Rattle.ht_pair.specs.declared.row.Row.{Row}
use Rattle.ht_conj.specs.Classes.{IsClass}
use Rattle.ht_conj.specs.Stages.{IsStageOf}
use Rattle.ht_conj.proofs.matching.add_matches.Given as goal

abbrev pub invariant-loop-atom : goal.invariant-loop-atom
invariant-loop-atom g l =
    All (IsClass l.g) l.classes
    × ((cycles : List Row) → IsStageOf l.f l.g cycles l.atoms l.fn.classes l.fn.rows.items → IsStageOf l.f l.g cycles (drop l.atom-index l.atoms) l.classes l.rows.items)
