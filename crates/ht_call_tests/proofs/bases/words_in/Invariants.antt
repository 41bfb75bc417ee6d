use Rattle.std.proofs.Common.{All}
use Rattle.ht_word.specs.Words.{IsWordOf}
use Rattle.ht_call_tests.proofs.bases.words_in.Given as goal

abbrev pub invariant-loop-text : goal.invariant-loop-text
invariant-loop-text g l = All (IsWordOf l.shape) l.words
