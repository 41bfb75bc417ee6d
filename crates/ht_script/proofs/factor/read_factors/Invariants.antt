use Rattle.std.proofs.Common.{length}
use Rattle.ht_script.proofs.FactorLists.{MakesList, ComesFrom}
use Rattle.ht_script.proofs.factor.read_factors.Given as goal

abbrev pub invariant-loop-token : goal.invariant-loop-token
invariant-loop-token l = record { read : MakesList l.factors l.left l.bytes; all : ComesFrom (length l.factors) l.left l.bytes }

abbrev pub decreases-loop-token : goal.decreases-loop-token
decreases-loop-token l = length l.left
