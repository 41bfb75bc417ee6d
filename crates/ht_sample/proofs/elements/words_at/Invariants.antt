use Rattle.std.proofs.Common.{◌≡◌, take}
use Rattle.ht_sample.specs.Samples.{read_at}
use Rattle.ht_sample.proofs.elements.words_at.Given as goal

abbrev pub invariant-loop-place : goal.invariant-loop-place
invariant-loop-place l = l.read ≡ read_at l.words (take l.place-index l.places)
