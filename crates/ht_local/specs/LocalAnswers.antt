-- Whether an element on an atom is conjugate to another one on an atom, as it is told: f and g are elements with their quasinormal bases, k are the
-- places of an atom of f, l of one of g.
--
--     IsLocal f k g l rows       the rows conjugate f on k into g on l, they carry the least attractor to an attractor and few letters, and
--                                all rows that conjugate and are alike under one word of k are alike under all
--     TellsLocal f k g l found   such rows; none where no rows of any number conjugate
use Rattle.std.specs.Prelude.{ℕ, List, [], ◌∷◌, Contains, Option, None, Some}
use Rattle.ht_word.specs.declared.word.Word.{Word}
use Rattle.ht_pair.specs.declared.row.Row.{Row}
use Rattle.ht_pair.specs.Atoms.{words_at}
use Rattle.ht_pair.specs.NormalConjugators.{IsLeastAttractor, CarriesToAttractor}
use Rattle.ht_pieces.specs.Agreements.{AreAlikeUnder}
use Rattle.ht_types.specs.TypedElements.{TypedValue}
use Rattle.ht_local.specs.LocalConjugators.{ConjugatesPlaces}

pub record IsLocal (f : TypedValue) (k : List ℕ) (g : TypedValue) (l : List ℕ) (rows : List Row) : Type 0 where
  pub conjugates : ConjugatesPlaces f k g l rows
  pub normal : (c : Word) → IsLeastAttractor f.element.shape f.element.rows f.quasi.basis.words k c
      → CarriesToAttractor f.element.shape rows g.element.rows (words_at g.quasi.basis.words l) c
  pub rigid : (others : List Row) (c : Word) → Contains (words_at f.quasi.basis.words k) c → ConjugatesPlaces f k g l others
      → AreAlikeUnder f.element.shape rows others (c ∷ []) → AreAlikeUnder f.element.shape rows others (words_at f.quasi.basis.words k)

abbrev pub TellsLocal : TypedValue → List ℕ → TypedValue → List ℕ → Option (List Row) → Type 0
TellsLocal f k g l None = (rows : List Row) → ¬ ConjugatesPlaces f k g l rows
TellsLocal f k g l (Some rows) = IsLocal f k g l rows
