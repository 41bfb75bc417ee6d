use Rattle.std.proofs.Common.{◌≡◌, ◌<◌, ℕ, None, Some, slice_get}
use Rattle.ht_word.specs.declared.word.Word.{Word}
use Rattle.ht_local.specs.declared.candidates.Candidate.{Candidate}
use Rattle.ht_local.specs.Candidates.{IsWordAt, known_of}
use Rattle.ht_local.specs.LocalTrials.{TellsWith}
use Rattle.ht_local.proofs.conjugacy.local.Given as goal

abbrev pub invariant-loop-index : goal.invariant-loop-index
invariant-loop-index g l = (i : ℕ) (first : Candidate) (x : Word) → i < l.index → slice_get l.firsts-inside.items.items i ≡ Some first → IsWordAt l.f l.k l.start x → TellsWith l.f l.k l.g l.l x (known_of l.g first) None
