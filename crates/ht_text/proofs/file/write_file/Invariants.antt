use Rattle.std.proofs.Common.{◌≡◌, ◌++◌, length, take}
use Rattle.ht_text.specs.Files.{row_lines}
use Rattle.ht_text.specs.FileLines.{head_text}
use Rattle.ht_text.proofs.file.write_file.Given as goal

abbrev pub invariant-loop-row : goal.invariant-loop-row
invariant-loop-row l = l.out.items ≡ head_text l.a.shape.n l.a.shape.r (length l.a.rows) ++ row_lines (take l.row-index l.row-items)
