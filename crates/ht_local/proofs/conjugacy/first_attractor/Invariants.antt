use Rattle.std.proofs.Common.{◌<◌, ℕ}
use Rattle.ht_word.specs.declared.word.Word.{Word}
use Rattle.ht_pair.specs.Kinds.{IsAttractorWord}
use Rattle.ht_local.specs.Candidates.{IsWordAt}
use Rattle.ht_local.proofs.conjugacy.first_attractor.Given as goal

abbrev pub invariant-loop-index : goal.invariant-loop-index
invariant-loop-index l = (i : ℕ) (x : Word) → i < l.index → IsWordAt l.f l.k i x → ¬ IsAttractorWord l.f.element.shape l.f.element.rows x
