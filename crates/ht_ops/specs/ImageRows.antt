-- How an image is kept: as rows from root 1 with letters.
--
--     entry_of row          the letters of the `from` word, and the `to` word
--     entries_of rows       the entry of each row
--     AreBehindRoot rows    each `from` word has the root 1
use Rattle.std.specs.Prelude.{◌≡◌, List, map, All}
use Rattle.ht_pair.specs.declared.row.Row.{Row}
use Rattle.ht_pair.specs.Images.{Entry}

abbrev pub entry_of : Row → Entry
entry_of row = record { letters = row.from.letters; word = row.to }

abbrev pub entries_of : List Row → List Entry
entries_of rows = map entry_of rows

abbrev pub AreBehindRoot : List Row → Type 0
AreBehindRoot rows = All (λ (row : Row). row.from.root ≡ 1) rows
