-- What is told of conjugators with one value: f and g are elements with their quasinormal bases, k are the places of an atom of f, l of one of g.
-- This project's own.
--
--     TellsWith f k g l x first found   rows that conjugate, which carry the word x to that of the value if its power is 0; none only where no
--                                       conjugator has the value at x
use Rattle.std.specs.Prelude.{ℕ, pos, ◌≡◌, List, Option, None, Some}
use Rattle.ht_word.specs.declared.word.Word.{Word}
use Rattle.ht_pair.specs.declared.row.Row.{Row}
use Rattle.ht_pair.specs.Actions.{Moves}
use Rattle.ht_pair.specs.Steps.{Carries}
use Rattle.ht_pieces.specs.Values.{IsValue}
use Rattle.ht_types.specs.TypedElements.{TypedValue}
use Rattle.ht_local.specs.declared.known.Known.{Known}
use Rattle.ht_local.specs.LocalConjugators.{ConjugatesPlaces}

abbrev pub TellsWith : TypedValue → List ℕ → TypedValue → List ℕ → Word → Known → Option (List Row) → Type 0
TellsWith f k g l x first None = (h : List Row) → ConjugatesPlaces f k g l h → ¬ IsValue f.element.shape (Moves h) g.element.rows x first.word first.power
TellsWith f k g l x first (Some rows) = ConjugatesPlaces f k g l rows × (first.power ≡ pos 0 → Carries f.element.shape rows (pos 1) x first.word)
