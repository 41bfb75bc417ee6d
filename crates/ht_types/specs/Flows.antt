-- Where words under the infinite part flow: X is the quasinormal basis of p. A walk carries a word step by step under words of X, ahead by the
-- powers from 0 on, behind by those from 0 down; ahead it ends under an attractor, behind under a repeller.
--
--     FlowsAhead shape p X u               some letters behind u, and a power from 0 on that carries u with them under an attractor
--     FlowsBehind shape p X u              some letters behind u, and a power from 0 down that carries u with them under a repeller
--     opposite direction                   the other direction
--     power_in direction k                 the power that k steps in the direction make
--     IsEndIn direction shape p x          walks in the direction end under x
--     IsEndKind direction kind             they end under words of the kind
--     LeadsIn direction a b                b makes the steps of a in the direction: it is a, or its inverse
--     IsUnderInfinite shape p X u          u is under a word of X that is no cycle word
--     IsPlaced X u walk                    no steps, from u to the word of X above it
--     IsWalk shape p X direction u x walk  the walk's steps lead from u to x, at the walk's place, and the walk's letters, under words of X all the
--                                          way, and the walk hasn't ended before
--     IsWholeWalk shape p X direction u walk  such a walk that ends here, or that no further step continues, of at most N(l + 1) steps for N words of X
--                                          and l letters of u
--     IsContinuedWith shape p X direction way a walk  the walk is that way and then the whole walk of the word where it has come with the letter a
--     LeadsAway direction kind k a         if walks in the direction lead away from words of the kind, a doesn't stand at the place k of its letters
--     IsExit shape p X direction u exit    letters behind u, and the walk of u with them, which ends, by at most N(l + 2) steps for N words of X and l
--                                          letters of u
use Rattle.std.specs.Prelude.{ℕ, ◌≡◌, ◌≢◌, ◌≤◌, ◌<◌, ◌+◌, ◌*◌, ◌^◌, ◌⊎◌, ℤ, pos, neg_ℤ, List, Some, length, slice_get, ⊤}
use Rattle.ht_word.specs.declared.word.Word.{Word}
use Rattle.ht_word.specs.declared.shape.Shape.{Shape}
use Rattle.ht_word.specs.Words.{◌·◌, child, IsLetters, IsUnder}
use Rattle.ht_pair.specs.declared.row.Row.{Row}
use Rattle.ht_pair.specs.Atoms.{IsInfiniteWord}
use Rattle.ht_pair.specs.Elements.{ElementValue}
use Rattle.ht_pair.specs.Kinds.{IsAttractorWord, IsRepellerWord}
use Rattle.ht_pair.specs.Products.{IsPower}
use Rattle.ht_pair.specs.Reaches.{CarriesUnderSuch}
use Rattle.ht_pair.specs.SemiNormal.{CarriesUnder}
use Rattle.ht_pair.specs.Steps.{Carries}
use Rattle.ht_types.specs.declared.direction.Direction.{Direction}
use Rattle.ht_types.specs.declared.direction.Direction.TheVariants.{Ahead, Behind}
use Rattle.ht_types.specs.declared.kind.Kind.{Kind}
use Rattle.ht_types.specs.declared.kind.Kind.TheVariants.{Cycle, Attractor, Repeller, Passing}
use Rattle.ht_types.specs.declared.walk.Walk.{Walk}
use Rattle.ht_types.specs.declared.exit.Exit.{Exit}

pub record FlowsAhead (shape : Shape) (p : List Row) (X : List Word) (u : Word) : Type 0 where
  pub letters : List ℕ
  pub of_shape : IsLetters shape letters
  pub steps : ℕ
  pub to : Word
  pub reached : CarriesUnderSuch shape p (IsAttractorWord shape p) X (pos steps) (u · letters) to

pub record FlowsBehind (shape : Shape) (p : List Row) (X : List Word) (u : Word) : Type 0 where
  pub letters : List ℕ
  pub of_shape : IsLetters shape letters
  pub steps : ℕ
  pub to : Word
  pub reached : CarriesUnderSuch shape p (IsRepellerWord shape p) X (neg_ℤ (pos steps)) (u · letters) to

abbrev pub opposite : Direction → Direction
opposite Ahead = Behind
opposite Behind = Ahead

abbrev pub power_in : Direction → ℕ → ℤ
power_in Ahead k = pos k
power_in Behind k = neg_ℤ (pos k)

abbrev pub IsEndIn : Direction → Shape → List Row → Word → Type 0
IsEndIn Ahead shape p x = IsAttractorWord shape p x
IsEndIn Behind shape p x = IsRepellerWord shape p x

abbrev pub IsEndKind : Direction → Kind → Type 0
IsEndKind Ahead (Cycle m) = ⊥
IsEndKind Ahead (Attractor m by) = ⊤
IsEndKind Ahead (Repeller m by) = ⊥
IsEndKind Ahead (Passing ahead behind) = ⊥
IsEndKind Behind (Cycle m) = ⊥
IsEndKind Behind (Attractor m by) = ⊥
IsEndKind Behind (Repeller m by) = ⊤
IsEndKind Behind (Passing ahead behind) = ⊥

abbrev pub LeadsIn : Direction → ElementValue → ElementValue → Type 0
LeadsIn Ahead a b = b ≡ a
LeadsIn Behind a b = (b.shape ≡ a.shape) × IsPower a.shape a.rows (neg_ℤ (pos 1)) b.rows

pub record IsUnderInfinite (shape : Shape) (p : List Row) (X : List Word) (u : Word) : Type 0 where
  pub above : Word
  pub infinite : IsInfiniteWord shape p X above
  pub under : IsUnder u above

pub record IsPlaced (X : List Word) (u : Word) (walk : Walk) : Type 0 where
  pub above : Word
  pub here : slice_get X walk.to ≡ Some above
  pub is : u ≡ above · walk.rest
  pub none : walk.steps ≡ 0

pub record IsWalk (shape : Shape) (p : List Row) (X : List Word) (direction : Direction) (u x : Word) (walk : Walk) : Type 0 where
  pub here : slice_get X walk.to ≡ Some x
  pub carries : Carries shape p (power_in direction walk.steps) u (x · walk.rest)
  pub under : (j : ℕ) → j ≤ walk.steps → CarriesUnder shape p (power_in direction j) u X
  pub before : (j : ℕ) (v : Word) → j < walk.steps → ¬ CarriesUnderSuch shape p (IsEndIn direction shape p) X (power_in direction j) u v

pub record IsWholeWalk (shape : Shape) (p : List Row) (X : List Word) (direction : Direction) (u : Word) (walk : Walk) : Type 0 where
  pub above : Word
  pub walked : IsWalk shape p X direction u above walk
  pub stops : IsEndIn direction shape p above ⊎ ¬ CarriesUnder shape p (power_in direction 1) (above · walk.rest) X
  pub most : walk.steps ≤ length X * (length u.letters + 1)
  pub few : walk.steps < 2 ^ 121

abbrev pub LeadsAway : Direction → Kind → ℕ → ℕ → Type 0
LeadsAway Ahead (Cycle m) k a = ⊤
LeadsAway Ahead (Attractor m by) k a = ⊤
LeadsAway Ahead (Repeller m by) k a = slice_get by k ≢ Some a
LeadsAway Ahead (Passing ahead behind) k a = ⊤
LeadsAway Behind (Cycle m) k a = ⊤
LeadsAway Behind (Attractor m by) k a = slice_get by k ≢ Some a
LeadsAway Behind (Repeller m by) k a = ⊤
LeadsAway Behind (Passing ahead behind) k a = ⊤

pub record IsContinuedWith (shape : Shape) (p : List Row) (X : List Word) (direction : Direction) (way : Walk) (a : ℕ) (walk : Walk) : Type 0 where
  pub above : Word
  pub here : slice_get X way.to ≡ Some above
  pub more : Walk
  pub whole : IsWholeWalk shape p X direction (child (above · way.rest) a) more
  pub steps : walk.steps ≡ way.steps + more.steps
  pub to : walk.to ≡ more.to
  pub rest : walk.rest ≡ more.rest

pub record IsExit (shape : Shape) (p : List Row) (X : List Word) (direction : Direction) (u : Word) (exit : Exit) : Type 0 where
  pub above : Word
  pub of_shape : IsLetters shape exit.letters
  pub walked : IsWalk shape p X direction (u · exit.letters) above (record { steps = exit.steps; to = exit.to; rest = exit.rest })
  pub ends : IsEndIn direction shape p above
  pub most : exit.steps ≤ length X * (length u.letters + 2)
  pub few : exit.steps < 2 ^ 121
