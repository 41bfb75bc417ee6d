-- Links: words of the infinite part that powers carry under both ends of a chain of walks. This project's own. t is an element with its
-- quasinormal basis; its ends are the attractors and the repellers.
--
--     reach_in direction link          the link's reach in the direction
--     ReachesEnd t direction u reach   the reach's steps in the direction carry u under the word of the basis at the reach's place, with the reach's
--                                      letters behind it, and that word is an end of walks in the direction
--     IsLink t link                    the cone is under the infinite part, and reaches an attractor ahead and a repeller behind
--     IsLinked t places links i j      some link, whose cone is under the words at the places, has its two ends at i and j
--     AreConnected t places links k i j   a chain of k such links leads from i to j
--     IsEndAt t places i               the word at i, one of the places, is an attractor or a repeller
--     ConnectEnds t places links       chains of links lead from each end at the places to each other
use Rattle.std.specs.Prelude.{ℕ, zero, suc, ◌≡◌, ◌<◌, ◌^◌, ◌⊎◌, List, Contains, Some, slice_get}
use Rattle.ht_word.specs.declared.word.Word.{Word}
use Rattle.ht_word.specs.Words.{◌·◌, IsUnderSome, IsWordOf}
use Rattle.ht_pair.specs.Atoms.{words_at}
use Rattle.ht_pair.specs.Kinds.{IsAttractorWord, IsRepellerWord}
use Rattle.ht_pair.specs.Steps.{Carries}
use Rattle.ht_types.specs.declared.direction.Direction.{Direction}
use Rattle.ht_types.specs.declared.direction.Direction.TheVariants.{Ahead, Behind}
use Rattle.ht_types.specs.declared.kind.Reach.{Reach}
use Rattle.ht_types.specs.declared.link.Link.{Link}
use Rattle.ht_types.specs.Flows.{power_in, IsEndIn, IsUnderInfinite}
use Rattle.ht_types.specs.TypedElements.{TypedValue}

abbrev pub reach_in : Direction → Link → Reach
reach_in Ahead link = link.ahead
reach_in Behind link = link.behind

pub record ReachesEnd (t : TypedValue) (direction : Direction) (u : Word) (reach : Reach) : Type 0 where
  pub above : Word
  pub here : slice_get t.quasi.basis.words reach.to ≡ Some above
  pub ends : IsEndIn direction t.element.shape t.element.rows above
  pub carries : Carries t.element.shape t.element.rows (power_in direction reach.steps) u (above · reach.rest)
  pub few : reach.steps < 2 ^ 121

pub record IsLink (t : TypedValue) (link : Link) : Type 0 where
  pub word : IsWordOf t.element.shape link.cone
  pub infinite : IsUnderInfinite t.element.shape t.element.rows t.quasi.basis.words link.cone
  pub ahead : ReachesEnd t Ahead link.cone link.ahead
  pub behind : ReachesEnd t Behind link.cone link.behind

pub record IsLinked (t : TypedValue) (places : List ℕ) (links : List Link) (i j : ℕ) : Type 0 where
  pub link : Link
  pub listed : Contains links link
  pub under : IsUnderSome link.cone (words_at t.quasi.basis.words places)
  pub ends : ((link.ahead.to ≡ i) × (link.behind.to ≡ j)) ⊎ ((link.ahead.to ≡ j) × (link.behind.to ≡ i))

abbrev pub AreConnected : TypedValue → List ℕ → List Link → ℕ → ℕ → ℕ → Type 0
AreConnected t places links zero i j = i ≡ j
AreConnected t places links (suc k) i j = (m : ℕ) × AreConnected t places links k i m × IsLinked t places links m j

pub record IsEndAt (t : TypedValue) (places : List ℕ) (i : ℕ) : Type 0 where
  pub listed : Contains places i
  pub word : Word
  pub here : slice_get t.quasi.basis.words i ≡ Some word
  pub ends : IsAttractorWord t.element.shape t.element.rows word ⊎ IsRepellerWord t.element.shape t.element.rows word

abbrev pub ConnectEnds : TypedValue → List ℕ → List Link → Type 0
ConnectEnds t places links = (i j : ℕ) → IsEndAt t places i → IsEndAt t places j → (k : ℕ) × AreConnected t places links k i j
