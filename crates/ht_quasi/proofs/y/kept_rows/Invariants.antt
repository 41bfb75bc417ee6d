use Rattle.std.proofs.Common.{◌≡◌, take}
use Rattle.ht_quasi.specs.Quasis.{kept}
use Rattle.ht_quasi.proofs.y.kept_rows.Given as goal

abbrev pub invariant-loop-word : goal.invariant-loop-word
invariant-loop-word l = l.rows ≡ kept (take l.word-index l.word-items)
