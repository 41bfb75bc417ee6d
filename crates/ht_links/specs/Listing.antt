-- Which links of an element are listed: one for each row of what one step carries under its basis, and two for each end. This project's own. t is the
-- element with its quasinormal basis.
--
--     IsLinkUnder t u link            a link whose cone is under u
--     IsEndLink direction u exit own link   the link of u with the exit's letters that reaches by own in the direction, and the exit's end in the other
--     IsStepFrom t direction x letters reach   one step in the direction carries x with the letters under the word of the basis at the reach's place
--     AreEndLinks t direction place first second   two links with one cone under the end at the place, which reach one place in the other direction:
--                                     in the direction the first reaches the end itself, and the second takes one step
--     ListsUnder t u links            a link under u is listed
--     ListsEnd t direction place links   such two links of the end at the place are listed
--     AddsRowLinks t rows old new     links behind the old ones: under each `from` word of the rows that is under the infinite part, at most one a row
--     AddsEndLinks t low high old new   links behind the old ones: for each end at the places from low on below high, at most two a place
use Rattle.std.specs.Prelude.{ℕ, ◌≡◌, ◌<◌, ◌≤◌, ◌-◌, ◌*◌, ◌++◌, List, length, All, Contains, Some, slice_get}
use Rattle.ht_word.specs.declared.word.Word.{Word}
use Rattle.ht_word.specs.Words.{◌·◌, IsUnder}
use Rattle.ht_pair.specs.declared.row.Row.{Row}
use Rattle.ht_pair.specs.Steps.{Carries}
use Rattle.ht_types.specs.declared.direction.Direction.{Direction}
use Rattle.ht_types.specs.declared.exit.Exit.{Exit}
use Rattle.ht_types.specs.declared.kind.Reach.{Reach}
use Rattle.ht_types.specs.declared.link.Link.{Link}
use Rattle.ht_types.specs.Flows.{power_in, IsEndIn, IsUnderInfinite, opposite}
use Rattle.ht_types.specs.Links.{IsLink, reach_in}
use Rattle.ht_types.specs.TypedElements.{TypedValue}

pub record IsLinkUnder (t : TypedValue) (u : Word) (link : Link) : Type 0 where
  pub made : IsLink t link
  pub under : IsUnder link.cone u

pub record IsEndLink (direction : Direction) (u : Word) (exit : Exit) (own : Reach) (link : Link) : Type 0 where
  pub cone : link.cone ≡ u · exit.letters
  pub there : reach_in direction link ≡ own
  pub other : reach_in (opposite direction) link ≡ record { steps = exit.steps; to = exit.to; rest = exit.rest }

pub record IsStepFrom (t : TypedValue) (direction : Direction) (x : Word) (letters : List ℕ) (reach : Reach) : Type 0 where
  pub above : Word
  pub here : slice_get t.quasi.basis.words reach.to ≡ Some above
  pub carries : Carries t.element.shape t.element.rows (power_in direction 1) (x · letters) (above · reach.rest)
  pub one : reach.steps ≡ 1

pub record AreEndLinks (t : TypedValue) (direction : Direction) (place : ℕ) (first second : Link) : Type 0 where
  pub word : Word
  pub here : slice_get t.quasi.basis.words place ≡ Some word
  pub under : IsUnder first.cone word
  pub cone : second.cone ≡ first.cone
  pub itself : (reach_in direction first).to ≡ place
  pub step : (reach_in direction second).steps ≡ 1
  pub other : (reach_in (opposite direction) second).to ≡ (reach_in (opposite direction) first).to

pub record ListsUnder (t : TypedValue) (u : Word) (links : List Link) : Type 0 where
  pub link : Link
  pub listed : Contains links link
  pub under : IsUnder link.cone u

pub record ListsEnd (t : TypedValue) (direction : Direction) (place : ℕ) (links : List Link) : Type 0 where
  pub first : Link
  pub second : Link
  pub first_listed : Contains links first
  pub second_listed : Contains links second
  pub are : AreEndLinks t direction place first second

pub record AddsRowLinks (t : TypedValue) (rows : List Row) (old new : List Link) : Type 0 where
  pub more : List Link
  pub is : new ≡ old ++ more
  pub links : All (IsLink t) more
  pub each : (row : Row) → Contains rows row → IsUnderInfinite t.element.shape t.element.rows t.quasi.basis.words row.from → ListsUnder t row.from more
  pub few : length more ≤ length rows

pub record AddsEndLinks (t : TypedValue) (low high : ℕ) (old new : List Link) : Type 0 where
  pub more : List Link
  pub is : new ≡ old ++ more
  pub links : All (IsLink t) more
  pub each : (direction : Direction) (place : ℕ) (x : Word) → low ≤ place → place < high → slice_get t.quasi.basis.words place ≡ Some x → IsEndIn direction t.element.shape t.element.rows x → ListsEnd t direction place more
  pub few : length more ≤ 2 * (high - low)
