-- What contracts see of an element with its quasinormal basis and kinds.
--
--     TypedValue                the element, its quasinormal basis with the rows and classes, and the kinds
--     HasShortReach found       the reach, where there is one, takes fewer than 2^121 steps
--     HasShortReaches kind      so do both reaches of a passing word
--     IsTyped element quasi kinds   the quasinormal basis is that of the element and takes at most 65,536 expansions, the kinds are those of
--                               its words, and their reaches are short
use Rattle.std.specs.Prelude.{◌≡◌, ◌<◌, ◌^◌, List, All, Option, None, Some, ⊤}
use Rattle.ht_pair.specs.Bases.{TakesAtMost}
use Rattle.ht_pair.specs.Elements.{ElementValue, IsElement}
use Rattle.ht_quasi.specs.declared.quasi.Quasi.{Quasi}
use Rattle.ht_quasi.specs.Quasis.{IsQuasi}
use Rattle.ht_types.specs.declared.kind.Reach.{Reach}
use Rattle.ht_types.specs.declared.kind.Kind.{Kind}
use Rattle.ht_types.specs.declared.kind.Kind.TheVariants.{Cycle, Attractor, Repeller, Passing}
use Rattle.ht_types.specs.WordKinds.{AreKinds}

pub record TypedValue : Type 0 where
  pub element : ElementValue
  pub quasi : Quasi
  pub kinds : List Kind

abbrev pub HasShortReach : Option Reach → Type 0
HasShortReach None = ⊤
HasShortReach (Some reach) = reach.steps < 2 ^ 121

abbrev pub HasShortReaches : Kind → Type 0
HasShortReaches (Cycle m) = ⊤
HasShortReaches (Attractor m by) = ⊤
HasShortReaches (Repeller m by) = ⊤
HasShortReaches (Passing ahead behind) = HasShortReach ahead × HasShortReach behind

pub record IsTyped (element : ElementValue) (quasi : Quasi) (kinds : List Kind) : Type 0 where
  pub canonical : IsElement element.shape element.rows
  pub shape_is : quasi.basis.shape ≡ element.shape
  pub quasinormal : IsQuasi element.shape element.rows quasi.basis.words quasi.y quasi.class
  pub within : TakesAtMost element.shape quasi.basis.words 65536
  pub kinds_are : AreKinds element.shape element.rows quasi.basis.words kinds
  pub short : All HasShortReaches kinds
