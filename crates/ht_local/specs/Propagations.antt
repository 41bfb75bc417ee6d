-- Values of conjugators at the ends of an atom, carried over its links until none is left to carry: f and g are elements with their quasinormal bases,
-- k are the places of an atom of f, and known are values by the places of k. This project's own.
--
--     end_of direction crossing       the place of the crossing's end in the direction
--     IsCrossing f k links crossing   the crossing's link is inside the atom, and k has the places of its two ends at the crossing's places
--     AreCrossings f k links crossings   such crossings, one for each link inside the atom
--     AreHeldAt f g k known           each value is held, and stands at the place of an attractor or a repeller
--     StayKnown old new               values that are known stay
--     IsLevel known crossing          both ends of the crossing are known, or neither
--     unknown known                   how many places have no value
--     TellsStep known crossing old new told   nothing is new and the crossing is level; or fewer places have no value
--     TellsPass crossings old new told        the same of all crossings
--     StayRight f g k old new told    for all h for which all old values are right it isn't told that there is no such h, and all new ones are right
--     AreAllKnown f g k start first found   values at all ends, and the first at the start
use Rattle.std.specs.Prelude.{ℕ, suc, Bool, true, false, ◌≡◌, ◌<◌, List, [], ◌∷◌, length, All, Contains, Option, None, Some, slice_get, ⊤}
use Rattle.ht_word.specs.Words.{IsUnderSome}
use Rattle.ht_pair.specs.Atoms.{IsAtom, words_at}
use Rattle.ht_pair.specs.declared.row.Row.{Row}
use Rattle.ht_types.specs.declared.direction.Direction.{Direction}
use Rattle.ht_types.specs.declared.direction.Direction.TheVariants.{Ahead, Behind}
use Rattle.ht_types.specs.declared.link.Link.{Link}
use Rattle.ht_types.specs.Links.{IsEndAt}
use Rattle.ht_types.specs.TypedElements.{TypedValue}
use Rattle.ht_local.specs.declared.known.Known.{Known}
use Rattle.ht_local.specs.declared.crossing.Crossing.{Crossing}
use Rattle.ht_local.specs.KnownValues.{IsHeld, AreKnown, AreRight, IsRight}
use Rattle.ht_local.specs.LocalConjugators.{ConjugatesPlaces}

abbrev pub end_of : Direction → Crossing → ℕ
end_of Ahead crossing = crossing.ahead
end_of Behind crossing = crossing.behind

pub record IsCrossing (f : TypedValue) (k : List ℕ) (links : List Link) (crossing : Crossing) : Type 0 where
  pub link : Link
  pub here : slice_get links crossing.link ≡ Some link
  pub under : IsUnderSome link.cone (words_at f.quasi.basis.words k)
  pub ahead : slice_get k crossing.ahead ≡ Some link.ahead.to
  pub behind : slice_get k crossing.behind ≡ Some link.behind.to

pub record AreCrossings (f : TypedValue) (k : List ℕ) (links : List Link) (crossings : List Crossing) : Type 0 where
  pub each : All (IsCrossing f k links) crossings
  pub all : (place : ℕ) (link : Link) → slice_get links place ≡ Some link → IsUnderSome link.cone (words_at f.quasi.basis.words k) → (crossing : Crossing) × Contains crossings crossing × (crossing.link ≡ place)

pub record AreHeldAt (f g : TypedValue) (k : List ℕ) (known : List (Option Known)) : Type 0 where
  pub as_many : length known ≡ length k
  pub each : (i place : ℕ) (value : Known) → slice_get k i ≡ Some place → slice_get known i ≡ Some (Some value) → IsEndAt f k place × IsHeld g value

abbrev pub StayKnown : List (Option Known) → List (Option Known) → Type 0
StayKnown old new = (i : ℕ) (value : Known) → slice_get old i ≡ Some (Some value) → slice_get new i ≡ Some (Some value)

abbrev pub IsLevel : List (Option Known) → Crossing → Type 0
IsLevel known crossing = (value : Known) → ((slice_get known crossing.ahead ≡ Some (Some value)) → (other : Known) × (slice_get known crossing.behind ≡ Some (Some other)))
    × ((slice_get known crossing.behind ≡ Some (Some value)) → (other : Known) × (slice_get known crossing.ahead ≡ Some (Some other)))

abbrev pub unknown : List (Option Known) → ℕ
unknown [] = 0
unknown (None ∷ known) = suc (unknown known)
unknown (Some value ∷ known) = unknown known

abbrev pub TellsStep : Crossing → List (Option Known) → List (Option Known) → Option Bool → Type 0
TellsStep crossing old new None = ⊤
TellsStep crossing old new (Some true) = unknown new < unknown old
TellsStep crossing old new (Some false) = (new ≡ old) × IsLevel new crossing

abbrev pub TellsPass : List Crossing → List (Option Known) → List (Option Known) → Option Bool → Type 0
TellsPass crossings old new None = ⊤
TellsPass crossings old new (Some true) = unknown new < unknown old
TellsPass crossings old new (Some false) = (new ≡ old) × All (IsLevel new) crossings

abbrev pub StayRight : TypedValue → TypedValue → List ℕ → List (Option Known) → List (Option Known) → Option Bool → Type 0
StayRight f g k old new told = (l : List ℕ) (h : List Row) → IsAtom f.element.shape f.element.rows f.quasi.basis.words k → IsAtom f.element.shape g.element.rows g.quasi.basis.words l
    → ConjugatesPlaces f k g l h → AreRight f g h k old → (found : Bool) × (told ≡ Some found) × AreRight f g h k new

pub record AreAllKnown (f g : TypedValue) (k : List ℕ) (start : ℕ) (first : Known) (known : List (Option Known)) : Type 0 where
  pub known_are : AreKnown f g k known
  pub first_is : slice_get known start ≡ Some (Some first)

abbrev pub AreAllRight : TypedValue → TypedValue → List ℕ → ℕ → Known → Option (List (Option Known)) → Type 0
AreAllRight f g k start first found = (l : List ℕ) (h : List Row) (place : ℕ) → IsAtom f.element.shape g.element.rows g.quasi.basis.words l → ConjugatesPlaces f k g l h
    → slice_get k start ≡ Some place → IsRight f g h place first → (known : List (Option Known)) × (found ≡ Some known) × AreRight f g h k known
