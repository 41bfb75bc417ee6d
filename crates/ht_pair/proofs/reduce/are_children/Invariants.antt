use Rattle.std.proofs.Common.{◌≡◌, take}
use Rattle.ht_word.specs.Words.{◌·◌, root_word}
use Rattle.ht_pair.specs.Merges.{child_rows}
use Rattle.ht_pair.proofs.reduce.are_children.Given as goal

abbrev pub invariant-loop-place : goal.invariant-loop-place
invariant-loop-place l = take l.place l.siblings ≡ child_rows (root_word l.row.from.root · l.from) (root_word l.row.to.root · l.to) l.place
