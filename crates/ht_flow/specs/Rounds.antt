-- The round of an attractor a of a basis X of p: the words of X above those to which the steps from a lead.
--
--     IsAttractorAt shape p X at m by      the word of X at the place is an attractor with this period and these letters
--     IsStage shape p X a stage            the stage's steps lead from a to the word of X at its place, with so many letters behind
--     IsNextStage shape p X x stage next   one step leads from x, at the stage's place, to that of the next, with the letters more
--     IsHead shape p X a count head        of the stages with fewer steps than count, the head is one at the earliest place
--     IsSooner first second stage          of two stages this is one at the earlier place
--     BeginsTimes k by z rest              z is k times by, and then the rest
use Rattle.std.specs.Prelude.{ℕ, zero, suc, pos, ◌≡◌, ◌<◌, ◌≤◌, ◌+◌, ◌⊎◌, List, ◌++◌, length, Some, slice_get}
use Rattle.ht_word.specs.declared.word.Word.{Word}
use Rattle.ht_word.specs.declared.shape.Shape.{Shape}
use Rattle.ht_word.specs.Words.{◌·◌}
use Rattle.ht_pair.specs.declared.row.Row.{Row}
use Rattle.ht_pair.specs.Kinds.{IsAttractor}
use Rattle.ht_pair.specs.Steps.{Carries}
use Rattle.ht_flow.specs.declared.round.Stage.{Stage}

pub record IsAttractorAt (shape : Shape) (p : List Row) (X : List Word) (at m : ℕ) (by : List ℕ) : Type 0 where
  pub above : Word
  pub here : slice_get X at ≡ Some above
  pub attractor : IsAttractor shape p above m by

pub record IsStage (shape : Shape) (p : List Row) (X : List Word) (a : Word) (stage : Stage) : Type 0 where
  pub above : Word
  pub here : slice_get X stage.at ≡ Some above
  pub behind : List ℕ
  pub as_many : length behind ≡ stage.letters
  pub carries : Carries shape p (pos stage.steps) a (above · behind)

pub record IsNextStage (shape : Shape) (p : List Row) (X : List Word) (x : Word) (stage next : Stage) : Type 0 where
  pub above : Word
  pub here : slice_get X next.at ≡ Some above
  pub behind : List ℕ
  pub as_many : next.letters ≡ stage.letters + length behind
  pub steps : next.steps ≡ stage.steps + 1
  pub carries : Carries shape p (pos 1) x (above · behind)

pub record IsHead (shape : Shape) (p : List Row) (X : List Word) (a : Word) (count : ℕ) (head : Stage) : Type 0 where
  pub stage : IsStage shape p X a head
  pub within : head.steps < count
  pub first : (j place : ℕ) (x : Word) (z : List ℕ) → j < count → slice_get X place ≡ Some x → Carries shape p (pos j) a (x · z) → head.at ≤ place

abbrev pub IsSooner : Stage → Stage → Stage → Type 0
IsSooner first second stage = ((stage ≡ first) × (first.at ≤ second.at)) ⊎ ((stage ≡ second) × (second.at < first.at))

abbrev pub BeginsTimes : ℕ → List ℕ → List ℕ → List ℕ → Type 0
BeginsTimes zero by z rest = z ≡ rest
BeginsTimes (suc k) by z rest = BeginsTimes k by z (by ++ rest)
