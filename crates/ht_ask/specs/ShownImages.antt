-- How the image of a word is shown.
--
--     rows_from word L    a row for each entry: from the word and the letters to the entry's word
use Rattle.std.specs.Prelude.{List, map}
use Rattle.ht_word.specs.declared.word.Word.{Word}
use Rattle.ht_word.specs.Words.{◌·◌}
use Rattle.ht_pair.specs.declared.row.Row.{Row}
use Rattle.ht_pair.specs.Images.{Entry}

abbrev pub rows_from : Word → List Entry → List Row
rows_from word L = map (λ (e : Entry). record { from = word · e.letters; to = e.word }) L
