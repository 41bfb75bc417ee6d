use Rattle.std.proofs.Common.{◌+◌, ◌*◌, length}
use Rattle.ht_pair.specs.Bases.{longest}
use Rattle.ht_pair.specs.Pairs.{from_words}
use Rattle.ht_types.proofs.ExitLaws.{IsOnExit, left_over}
use Rattle.ht_types.proofs.SeenLaws.{rows_in}
use Rattle.ht_types.proofs.exit.exit_of.Given as goal

abbrev pub invariant-leaving : goal.invariant-leaving
invariant-leaving l = IsOnExit l.t.element.shape (rows_in l.direction l.t.element.rows) l.t.quasi.basis.words l.word l.letters l.way

abbrev pub decreases-leaving : goal.decreases-leaving
decreases-leaving l = left_over (length l.t.quasi.basis.words * (length l.word.letters + 2)) l.way.steps (longest (from_words (rows_in l.direction l.t.element.rows)) + longest l.t.quasi.basis.words) (length l.way.rest)
