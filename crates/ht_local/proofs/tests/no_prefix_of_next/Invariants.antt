use Rattle.std.specs.Borrow.{Bor}
use Rattle.std.specs.List.{AllAdjacentBelow}
use Rattle.ht_word.specs.declared.word.Word.{Word}
use Rattle.ht_word.specs.Words.{IsUnder}
use Rattle.ht_local.proofs.tests.no_prefix_of_next.Given as goal

abbrev pub invariant-loop-index : goal.invariant-loop-index
invariant-loop-index l = AllAdjacentBelow (λ (word : Bor Word) (next : Bor Word). ¬ IsUnder next.now word.now) l.words l.index
