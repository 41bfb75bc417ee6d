use Rattle.ht_local.specs.Candidates.{AreTried}
use Rattle.ht_local.proofs.candidates.candidates.Given as goal

abbrev pub invariant-loop-index : goal.invariant-loop-index
invariant-loop-index l = AreTried l.g l.l l.m l.by l.index l.marks.items l.found
