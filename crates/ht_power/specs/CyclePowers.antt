-- Powers of an element that carry each word of its basis X to a word of X.
--
--     IsFinite t                        the infinite part is empty
--     AreLed shape p X k count places   k steps carry the first words of X, so many, to the words of X at these places
--     ArePlaced W places rows           rows from the words of W, each to the word of W at the place that is given for it
use Rattle.std.specs.Prelude.{ℕ, pos, ◌≡◌, List, [], length, map, Some, slice_get}
use Rattle.ht_word.specs.declared.word.Word.{Word}
use Rattle.ht_word.specs.declared.shape.Shape.{Shape}
use Rattle.ht_pair.specs.declared.row.Row.{Row}
use Rattle.ht_pair.specs.Pairs.{from_words}
use Rattle.ht_pair.specs.Parts.{IsInfinitePart}
use Rattle.ht_types.specs.TypedElements.{TypedValue}
use Rattle.ht_types.specs.WordSteps.{LeadsTo}

abbrev pub IsFinite : TypedValue → Type 0
IsFinite t = IsInfinitePart t.element.shape t.element.rows t.quasi.basis.words []

pub record AreLed (shape : Shape) (p : List Row) (X : List Word) (k count : ℕ) (places : List ℕ) : Type 0 where
  pub many : length places ≡ count
  pub each : (place to : ℕ) (x : Word) → slice_get X place ≡ Some x → slice_get places place ≡ Some to → LeadsTo shape p X (pos k) x to []

pub record ArePlaced (W : List Word) (places : List ℕ) (rows : List Row) : Type 0 where
  pub from : from_words rows ≡ W
  pub to : map (λ (row : Row). Some row.to) rows ≡ map (λ (to : ℕ). slice_get W to) places
