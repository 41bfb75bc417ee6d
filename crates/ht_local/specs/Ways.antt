-- Ways from the words of an atom: t is an element with its quasinormal basis, k are the places of an atom of it.
--
--     IsAnchor t k index end steps rest   so many steps lead from the word at the index among the places to that at the index `end`, an end, with the
--                                         letters `rest` behind it; an end leads to itself by none
--     is_end kind                         whether words of the kind are attractors or repellers
--     ahead_of kind                       the reach ahead of a passing word, where it has one
--     behind_of kind                      the reach behind of one
--     IsNext t k index direction to rest  one step in the direction leads from the word at the index to that at the index `to`, with letters behind it
use Rattle.std.specs.Prelude.{ℕ, ℤ, pos, nat_abs, ◌≡◌, ◌<◌, ◌^◌, Bool, true, false, List, [], Option, None, Some, slice_get}
use Rattle.ht_word.specs.declared.word.Word.{Word}
use Rattle.ht_word.specs.Words.{◌·◌}
use Rattle.ht_pair.specs.Steps.{Carries}
use Rattle.ht_types.specs.declared.direction.Direction.{Direction}
use Rattle.ht_types.specs.declared.kind.Kind.{Kind}
use Rattle.ht_types.specs.declared.kind.Kind.TheVariants.{Cycle, Attractor, Repeller, Passing}
use Rattle.ht_types.specs.declared.kind.Reach.{Reach}
use Rattle.ht_types.specs.Flows.{power_in}
use Rattle.ht_types.specs.Links.{IsEndAt}
use Rattle.ht_types.specs.TypedElements.{TypedValue}

pub record IsWay (t : TypedValue) (k : List ℕ) (index to : ℕ) (steps : ℤ) (rest : List ℕ) : Type 0 where
  pub start : ℕ
  pub start_at : slice_get k index ≡ Some start
  pub place : ℕ
  pub place_at : slice_get k to ≡ Some place
  pub word : Word
  pub here : slice_get t.quasi.basis.words start ≡ Some word
  pub above : Word
  pub there : slice_get t.quasi.basis.words place ≡ Some above
  pub carries : Carries t.element.shape t.element.rows steps word (above · rest)

pub record IsAnchor (t : TypedValue) (k : List ℕ) (index end : ℕ) (steps : ℤ) (rest : List ℕ) : Type 0 where
  pub way : IsWay t k index end steps rest
  pub ends : IsEndAt t k way.place
  pub few : nat_abs steps < 2 ^ 121
  pub itself : IsEndAt t k way.start → (end ≡ index) × (steps ≡ pos 0) × (rest ≡ [])

abbrev pub IsNext : TypedValue → List ℕ → ℕ → Direction → ℕ → List ℕ → Type 0
IsNext t k index direction to rest = IsWay t k index to (power_in direction 1) rest

abbrev pub is_end : Kind → Bool
is_end (Cycle m) = false
is_end (Attractor m by) = true
is_end (Repeller m by) = true
is_end (Passing ahead behind) = false

abbrev pub ahead_of : Kind → Option Reach
ahead_of (Cycle m) = None
ahead_of (Attractor m by) = None
ahead_of (Repeller m by) = None
ahead_of (Passing ahead behind) = ahead

abbrev pub behind_of : Kind → Option Reach
behind_of (Cycle m) = None
behind_of (Attractor m by) = None
behind_of (Repeller m by) = None
behind_of (Passing ahead behind) = behind
