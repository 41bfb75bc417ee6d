-- Conjugators on atoms: f and g are elements with their quasinormal bases, k and l places of words of these.
--
--     ConjugatesPlaces f k g l h   h conjugates f on the words at k into g on the words at l
use Rattle.std.specs.Prelude.{ℕ, List}
use Rattle.ht_pair.specs.declared.row.Row.{Row}
use Rattle.ht_pair.specs.Atoms.{words_at}
use Rattle.ht_pair.specs.LocalConjugacy.{ConjugatesOn}
use Rattle.ht_types.specs.TypedElements.{TypedValue}

abbrev pub ConjugatesPlaces : TypedValue → List ℕ → TypedValue → List ℕ → List Row → Type 0
ConjugatesPlaces f k g l h = ConjugatesOn f.element.shape h f.element.rows (words_at f.quasi.basis.words k) g.element.rows (words_at g.quasi.basis.words l)
