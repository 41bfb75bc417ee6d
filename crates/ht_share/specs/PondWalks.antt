-- Where a word with letters behind it is carried under the quasinormal basis X of p, and when the word itself comes back.
--
--     ComesTo shape p X u walk        the walk's steps carry u to the word of X at its place with its letters behind it
--     IsNone shape p X u k            none of the powers from 1 to k carries u under X
--     IsNext shape p X walk next      one step leads from where the walk has come to where the next one has
--     IsSettled shape p X count walk  the word of X at the walk's place stays ahead, with so many letters behind it at least
--     IsFurther shape p X u k most found  a further walk of u, of more than k steps and no more than most; or none, where the power most carries u to no word under X
--     IsEnough shape p X exit most    the exit's steps, and as many rounds of the attractor as the exit has letters
use Rattle.std.specs.Prelude.{ℕ, pos, ◌≡◌, ◌≤◌, ◌<◌, ◌+◌, ◌*◌, ◌^◌, List, length, Option, None, Some, slice_get}
use Rattle.ht_word.specs.declared.word.Word.{Word}
use Rattle.ht_word.specs.declared.shape.Shape.{Shape}
use Rattle.ht_word.specs.Words.{◌·◌}
use Rattle.ht_pair.specs.declared.row.Row.{Row}
use Rattle.ht_pair.specs.Kinds.{IsAttractor}
use Rattle.ht_pair.specs.SemiNormal.{CarriesUnder, StaysAhead}
use Rattle.ht_pair.specs.Steps.{Carries}
use Rattle.ht_types.specs.declared.exit.Exit.{Exit}
use Rattle.ht_types.specs.declared.walk.Walk.{Walk}
use Rattle.ht_types.specs.WordSteps.{LeadsTo}

pub record ComesTo (shape : Shape) (p : List Row) (X : List Word) (u : Word) (walk : Walk) : Type 0 where
  pub above : Word
  pub here : slice_get X walk.to ≡ Some above
  pub carries : Carries shape p (pos walk.steps) u (above · walk.rest)

abbrev pub IsNone : Shape → List Row → List Word → Word → ℕ → Type 0
IsNone shape p X u k = (j : ℕ) → 1 ≤ j → j ≤ k → ¬ CarriesUnder shape p (pos j) u X

pub record IsNext (shape : Shape) (p : List Row) (X : List Word) (walk next : Walk) : Type 0 where
  pub steps : next.steps ≡ walk.steps + 1
  pub leads : (x : Word) → slice_get X walk.to ≡ Some x → LeadsTo shape p X (pos 1) (x · walk.rest) next.to next.rest

pub record IsSettled (shape : Shape) (p : List Row) (X : List Word) (count : ℕ) (walk : Walk) : Type 0 where
  pub above : Word
  pub here : slice_get X walk.to ≡ Some above
  pub ahead : StaysAhead shape p X above
  pub long : count ≤ length walk.rest

abbrev pub IsFurther : Shape → List Row → List Word → Word → ℕ → ℕ → Option Walk → Type 0
IsFurther shape p X u k most None = ¬ CarriesUnder shape p (pos most) u X
IsFurther shape p X u k most (Some walk) = (k < walk.steps) × (walk.steps ≤ most) × ComesTo shape p X u walk

pub record IsEnough (shape : Shape) (p : List Row) (X : List Word) (exit : Exit) (most : ℕ) : Type 0 where
  pub above : Word
  pub here : slice_get X exit.to ≡ Some above
  pub period : ℕ
  pub by : List ℕ
  pub attractor : IsAttractor shape p above period by
  pub is : most ≡ exit.steps + period * length exit.letters
  pub few : most < 2 ^ 122
