-- The periodic and the infinite part of an element. X is the quasinormal basis of p.
--
--     IsSelected P X W               W is the ascending list of the words of X with the property
--     IsPeriodicPart shape p X P     P lists the cycle words of X
--     IsInfinitePart shape p X I     I lists the other words of X
--     MovesOnly shape p V W s        s is a pair that moves the words under V as p does, and those under W to themselves
--     HasParts shape p X s t         s moves as p on the periodic part and fixes the infinite part, and t the other way round
use Rattle.std.specs.Prelude.{◌≡◌, ◌↔◌, List, Contains}
use Rattle.ht_word.specs.declared.word.Word.{Word}
use Rattle.ht_word.specs.declared.shape.Shape.{Shape}
use Rattle.ht_word.specs.Words.{IsWordOf, IsUnderSome, IsAscending}
use Rattle.ht_pair.specs.declared.row.Row.{Row}
use Rattle.ht_pair.specs.Pairs.{IsPair}
use Rattle.ht_pair.specs.Actions.{Moves}
use Rattle.ht_pair.specs.Kinds.{IsCycleWord}

pub record IsSelected (P : Word → Type 0) (X W : List Word) : Type 0 where
  pub ascending : IsAscending W
  pub same : (x : Word) → Contains W x ↔ (Contains X x × P x)

abbrev pub IsPeriodicPart : Shape → List Row → List Word → List Word → Type 0
IsPeriodicPart shape p X P = IsSelected (IsCycleWord shape p) X P

abbrev pub IsInfinitePart : Shape → List Row → List Word → List Word → Type 0
IsInfinitePart shape p X I = IsSelected (λ x. ¬ IsCycleWord shape p x) X I

pub record MovesOnly (shape : Shape) (p : List Row) (V W : List Word) (s : List Row) : Type 0 where
  pub pair : IsPair shape s
  pub on : (u v v' : Word) → IsWordOf shape u → IsUnderSome u V → Moves p u v → Moves s u v' → v ≡ v'
  pub off : (u v : Word) → IsWordOf shape u → IsUnderSome u W → Moves s u v → u ≡ v

pub record HasParts (shape : Shape) (p : List Row) (X : List Word) (first second : List Row) : Type 0 where
  pub periodic : List Word
  pub infinite : List Word
  pub is_periodic : IsPeriodicPart shape p X periodic
  pub is_infinite : IsInfinitePart shape p X infinite
  pub on_periodic : MovesOnly shape p periodic infinite first
  pub on_infinite : MovesOnly shape p infinite periodic second
