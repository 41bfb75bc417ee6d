-- What is known of conjugators at the ends of an atom: f and g are elements with their quasinormal bases, h conjugates, k are the places of an atom
-- of f, l of one of g.
--
--     IsHeld g known             the word is under the infinite part of g, and the power below 2^122 in absolute value
--     IsRight f g h place known  h sends the long words under the word of f at the place to where so many steps of g lead from the known word
--     IsKnownAt f g k place found  a held value where the place is that of an attractor or a repeller, and none elsewhere
--     AreKnown f g k known       this holds of each place of k
--     AreRight f g h k known     the values are right for h
--     IsCandidate g l m by known   no steps from d and a front of its letters, for an attractor d at l with the period m, whose letters are those of `by`
--                                turned by that front
use Rattle.std.specs.Prelude.{ℕ, pos, nat_abs, ◌≡◌, ◌≢◌, ◌<◌, ◌^◌, List, [], ◌++◌, length, Contains, Option, None, Some, slice_get}
use Rattle.ht_word.specs.declared.word.Word.{Word}
use Rattle.ht_word.specs.Words.{◌·◌, IsWordOf}
use Rattle.ht_pair.specs.declared.row.Row.{Row}
use Rattle.ht_pair.specs.Actions.{Moves}
use Rattle.ht_pair.specs.Atoms.{words_at}
use Rattle.ht_pair.specs.Kinds.{IsAttractor}
use Rattle.ht_pieces.specs.Values.{IsValue}
use Rattle.ht_types.specs.Flows.{IsUnderInfinite}
use Rattle.ht_types.specs.Links.{IsEndAt}
use Rattle.ht_types.specs.TypedElements.{TypedValue}
use Rattle.ht_local.specs.declared.known.Known.{Known}

pub record IsHeld (g : TypedValue) (known : Known) : Type 0 where
  pub word : IsWordOf g.element.shape known.word
  pub infinite : IsUnderInfinite g.element.shape g.element.rows g.quasi.basis.words known.word
  pub few : nat_abs known.power < 2 ^ 122

pub record IsRight (f g : TypedValue) (h : List Row) (place : ℕ) (known : Known) : Type 0 where
  pub word : Word
  pub here : slice_get f.quasi.basis.words place ≡ Some word
  pub value : IsValue f.element.shape (Moves h) g.element.rows word known.word known.power

abbrev pub IsKnownAt : TypedValue → TypedValue → List ℕ → ℕ → Option Known → Type 0
IsKnownAt f g k place None = ¬ IsEndAt f k place
IsKnownAt f g k place (Some known) = IsEndAt f k place × IsHeld g known

pub record AreKnown (f g : TypedValue) (k : List ℕ) (known : List (Option Known)) : Type 0 where
  pub as_many : length known ≡ length k
  pub each : (i place : ℕ) (found : Option Known) → slice_get k i ≡ Some place → slice_get known i ≡ Some found → IsKnownAt f g k place found

abbrev pub AreRight : TypedValue → TypedValue → List Row → List ℕ → List (Option Known) → Type 0
AreRight f g h k known = (i place : ℕ) (value : Known) → slice_get k i ≡ Some place → slice_get known i ≡ Some (Some value) → IsRight f g h place value

pub record IsCandidate (g : TypedValue) (l : List ℕ) (m : ℕ) (by : List ℕ) (known : Known) : Type 0 where
  pub end : Word
  pub listed : Contains (words_at g.quasi.basis.words l) end
  pub front : List ℕ
  pub back : List ℕ
  pub attractor : IsAttractor g.element.shape g.element.rows end m (front ++ back)
  pub proper : back ≢ []
  pub turned : by ≡ back ++ front
  pub word : known.word ≡ end · front
  pub none : known.power ≡ pos 0
