-- The kind of a word of the quasinormal basis X of p, as one notion over the enum of kinds.
--
--     LeadsAhead shape p X x reach    x stays ahead, and from 1 on the reach's steps are the first that carry it under an attractor:
--                                     to the word of X at the reach's place, with the reach's letters behind it
--     LeadsBehind shape p X x reach   the same for the powers from -1 down and a repeller, where x stays behind
--     IsAhead shape p X x found       such a reach; none exactly where x doesn't stay ahead
--     IsBehind shape p X x found      the same behind
--     HasKind shape p X x kind        x is a word of the kind, with its least numbers
--     AreKinds shape p X kinds        each word of X has the kind at its place
use Rattle.std.specs.Prelude.{ℕ, ◌≡◌, List, length, Option, None, Some, slice_get}
use Rattle.ht_word.specs.declared.word.Word.{Word}
use Rattle.ht_word.specs.declared.shape.Shape.{Shape}
use Rattle.ht_word.specs.Words.{◌·◌}
use Rattle.ht_pair.specs.declared.row.Row.{Row}
use Rattle.ht_pair.specs.Kinds.{IsCycle, IsAttractor, IsRepeller, IsPassing}
use Rattle.ht_pair.specs.Reaches.{HasAhead, HasBehind}
use Rattle.ht_types.specs.declared.kind.Reach.{Reach}
use Rattle.ht_types.specs.declared.kind.Kind.{Kind}
use Rattle.ht_types.specs.declared.kind.Kind.TheVariants.{Cycle, Attractor, Repeller, Passing}

pub record LeadsAhead (shape : Shape) (p : List Row) (X : List Word) (x : Word) (reach : Reach) : Type 0 where
  pub above : Word
  pub here : slice_get X reach.to ≡ Some above
  pub first : HasAhead shape p X x (Some (reach.steps, above · reach.rest))

pub record LeadsBehind (shape : Shape) (p : List Row) (X : List Word) (x : Word) (reach : Reach) : Type 0 where
  pub above : Word
  pub here : slice_get X reach.to ≡ Some above
  pub first : HasBehind shape p X x (Some (reach.steps, above · reach.rest))

abbrev pub IsAhead : Shape → List Row → List Word → Word → Option Reach → Type 0
IsAhead shape p X x None = HasAhead shape p X x None
IsAhead shape p X x (Some reach) = LeadsAhead shape p X x reach

abbrev pub IsBehind : Shape → List Row → List Word → Word → Option Reach → Type 0
IsBehind shape p X x None = HasBehind shape p X x None
IsBehind shape p X x (Some reach) = LeadsBehind shape p X x reach

abbrev pub HasKind : Shape → List Row → List Word → Word → Kind → Type 0
HasKind shape p X x (Cycle m) = IsCycle shape p x m
HasKind shape p X x (Attractor m by) = IsAttractor shape p x m by
HasKind shape p X x (Repeller m by) = IsRepeller shape p x m by
HasKind shape p X x (Passing ahead behind) = IsPassing shape p x × IsAhead shape p X x ahead × IsBehind shape p X x behind

pub record AreKinds (shape : Shape) (p : List Row) (X : List Word) (kinds : List Kind) : Type 0 where
  pub as_many : length kinds ≡ length X
  pub each : (place : ℕ) (x : Word) (kind : Kind) → slice_get X place ≡ Some x → slice_get kinds place ≡ Some kind → HasKind shape p X x kind
