-- Lines within the length that the calculator reads.
--
--     HasShortRows line    the rows of the line, where it has rows, have a text of at most 65,536 bytes
--     NamesFile line       what the line loads, where it loads, is the name of a file
use Rattle.std.specs.Prelude.{◌≤◌, length, ⊤}
use Rattle.ht_text.specs.Texts.{rows_text}
use Rattle.ht_script.specs.declared.line.Line.{Line}
use Rattle.ht_script.specs.declared.line.Line.TheVariants.{Reduce, LetRows, Load}
use Rattle.ht_script.specs.Names.{IsFileName}

abbrev pub HasShortRows : Line → Type 0
HasShortRows (Reduce rows) = length (rows_text rows) ≤ 65536
HasShortRows (LetRows name rows) = length (rows_text rows) ≤ 65536
HasShortRows other = ⊤

abbrev pub NamesFile : Line → Type 0
NamesFile (Load name file) = IsFileName file
NamesFile other = ⊤
