-- Rows that move words alike on a part. This project's own.
--
--     AreAlikeUnder shape h q V   wherever h and q both move a word under V, they move it to the same word
use Rattle.std.specs.Prelude.{◌≡◌, List}
use Rattle.ht_word.specs.declared.word.Word.{Word}
use Rattle.ht_word.specs.declared.shape.Shape.{Shape}
use Rattle.ht_word.specs.Words.{IsWordOf, IsUnderSome}
use Rattle.ht_pair.specs.declared.row.Row.{Row}
use Rattle.ht_pair.specs.Actions.{Moves}

abbrev pub AreAlikeUnder : Shape → List Row → List Row → List Word → Type 0
AreAlikeUnder shape h q V = (u v v' : Word) → IsWordOf shape u → IsUnderSome u V → Moves h u v → Moves q u v' → v ≡ v'
