-- Values carried over links. A link joins an attractor of f, ahead, and a repeller, behind; where the value of conjugators at one of these is known,
-- that at the other follows. t is an element with its quasinormal basis; f and g are two such elements. This project's own.
--
--     power_across direction i k         i steps, and k more against the direction
--     IsLedBy t i u led                  the i-th power carries u, with the letters behind it, to the word of the basis at the place of the walk, with
--                                        the walk's letters behind it
--     IsLedOn t direction way next       one step more, from where the way has come, with more letters
--     AreRoundsApart n i j               i and j differ by a multiple of n
--     AreTurned L G front back           L is a front and the rest, which isn't empty, and G is the rest and the front
--     AreTurnedKinds kind other front back   the kinds are both those of attractors or both those of repellers, with one period, and so are their letters
--     letters_of kind                    the letters of an attractor or a repeller
--     IsFoundTurn L G i j found          where L turned by a front is G, and the front's length and j more differ from i by a multiple of the length of L,
--                                        that front is found
--     IsFoundFront kind other i j found  the same of the letters of two kinds
--     IsFarWord f g exit far led found   the word where the exit ends with the front, behind it, that turns its letters into those of the far end: its length is
--                                        told by the letters of the exit, of the reach to the far end, and of those that were put behind
--     IsShared g word far led to found   the word, and the power that carries it with the letters behind it to the other one, if any does
--     IsRightAcross f g link direction near found   for all h for which the known value is right at the link's end in the direction, a value is found
--                                        that is right at its other end
use Rattle.std.specs.Prelude.{ℕ, ℤ, pos, ◌≡◌, ◌≢◌, ◌+◌, ◌*◌, ◌+ℤ◌, ◌-ℤ◌, ◌⊎◌, List, [], ◌++◌, length, Option, Some, slice_get, option_map}
use Rattle.ht_word.specs.declared.word.Word.{Word}
use Rattle.ht_word.specs.Words.{◌·◌, IsLetters, IsUnderSome}
use Rattle.ht_pair.specs.declared.row.Row.{Row}
use Rattle.ht_pair.specs.Atoms.{IsAtom, words_at}
use Rattle.ht_pair.specs.Steps.{Carries}
use Rattle.ht_types.specs.declared.direction.Direction.{Direction}
use Rattle.ht_types.specs.declared.direction.Direction.TheVariants.{Ahead, Behind}
use Rattle.ht_types.specs.declared.exit.Exit.{Exit}
use Rattle.ht_types.specs.declared.kind.Kind.{Kind}
use Rattle.ht_types.specs.declared.kind.Kind.TheVariants.{Cycle, Attractor, Repeller, Passing}
use Rattle.ht_types.specs.declared.kind.Reach.{Reach}
use Rattle.ht_types.specs.declared.link.Link.{Link}
use Rattle.ht_types.specs.Flows.{power_in, opposite}
use Rattle.ht_types.specs.Shares.{IsShare}
use Rattle.ht_types.specs.TypedElements.{TypedValue}
use Rattle.ht_local.specs.declared.known.Known.{Known}
use Rattle.ht_local.specs.declared.led.Led.{Led}
use Rattle.ht_local.specs.KnownValues.{IsRight}
use Rattle.ht_local.specs.LocalConjugators.{ConjugatesPlaces}
use Rattle.ht_types.specs.Links.{reach_in}

abbrev pub power_across : Direction → ℤ → ℕ → ℤ
power_across Ahead i k = i -ℤ pos k
power_across Behind i k = i +ℤ pos k

pub record IsLedBy (t : TypedValue) (i : ℤ) (u : Word) (led : Led) : Type 0 where
  pub above : Word
  pub here : slice_get t.quasi.basis.words led.walk.to ≡ Some above
  pub of_shape : IsLetters t.element.shape led.letters
  pub carries : Carries t.element.shape t.element.rows i (u · led.letters) (above · led.walk.rest)

pub record IsLedOn (t : TypedValue) (direction : Direction) (way next : Led) : Type 0 where
  pub before : Word
  pub there : slice_get t.quasi.basis.words way.walk.to ≡ Some before
  pub more : List ℕ
  pub of_shape : IsLetters t.element.shape more
  pub letters : next.letters ≡ way.letters ++ more
  pub steps : next.walk.steps ≡ way.walk.steps + 1
  pub above : Word
  pub here : slice_get t.quasi.basis.words next.walk.to ≡ Some above
  pub carries : Carries t.element.shape t.element.rows (power_in direction 1) ((before · way.walk.rest) · more) (above · next.walk.rest)

abbrev pub AreRoundsApart : ℕ → ℕ → ℕ → Type 0
AreRoundsApart n i j = ((c : ℕ) × (i ≡ c * n + j)) ⊎ ((c : ℕ) × (j ≡ c * n + i))

pub record AreTurned (L G front back : List ℕ) : Type 0 where
  pub whole : L ≡ front ++ back
  pub turned : G ≡ back ++ front
  pub proper : back ≢ []

abbrev pub AreTurnedKinds : Kind → Kind → List ℕ → List ℕ → Type 0
AreTurnedKinds (Attractor m L) (Attractor k G) front back = (m ≡ k) × AreTurned L G front back
AreTurnedKinds (Repeller m L) (Repeller k G) front back = (m ≡ k) × AreTurned L G front back
AreTurnedKinds kind other front back = ⊥

abbrev pub letters_of : Kind → List ℕ
letters_of (Cycle m) = []
letters_of (Attractor m by) = by
letters_of (Repeller m by) = by
letters_of (Passing ahead behind) = []

abbrev pub IsFoundTurn : List ℕ → List ℕ → ℕ → ℕ → Option (List ℕ) → Type 0
IsFoundTurn L G i j found = (front back : List ℕ) → AreTurned L G front back → AreRoundsApart (length L) i (length front + j) → found ≡ Some front

abbrev pub IsFoundFront : Kind → Kind → ℕ → ℕ → Option (List ℕ) → Type 0
IsFoundFront kind other i j found = (front back : List ℕ) → AreTurnedKinds kind other front back → AreRoundsApart (length (letters_of kind)) i (length front + j) → found ≡ Some front

abbrev pub IsFarWord : TypedValue → TypedValue → Exit → Reach → List ℕ → Option Word → Type 0
IsFarWord f g exit far led found = (kind other : Kind) (end : Word) → slice_get f.kinds far.to ≡ Some kind → slice_get g.kinds exit.to ≡ Some other → slice_get g.quasi.basis.words exit.to ≡ Some end
    → (front : Option (List ℕ)) × (found ≡ option_map (λ z. end · z) front) × ((z : List ℕ) → front ≡ Some z → (back : List ℕ) × (letters_of other ≡ z ++ back))
    × IsFoundFront other kind (length exit.rest) (length far.rest + length led + length exit.letters) front

abbrev pub IsShared : TypedValue → Word → Reach → List ℕ → Word → Option Known → Type 0
IsShared g word far led to found = (power : Option ℤ) × (found ≡ option_map (λ i. record { word = word; power = i }) power)
    × IsShare g.element.shape g.element.rows g.quasi.basis.words ((word · far.rest) · led) to power

abbrev pub IsRightAcross : TypedValue → TypedValue → Link → Direction → Known → Option Known → Type 0
IsRightAcross f g link direction near found = (k l : List ℕ) (h : List Row) → IsAtom f.element.shape f.element.rows f.quasi.basis.words k
    → IsAtom f.element.shape g.element.rows g.quasi.basis.words l → IsUnderSome link.cone (words_at f.quasi.basis.words k) → ConjugatesPlaces f k g l h
    → IsRight f g h (reach_in direction link).to near → (far : Known) × (found ≡ Some far) × IsRight f g h (reach_in (opposite direction) link).to far
