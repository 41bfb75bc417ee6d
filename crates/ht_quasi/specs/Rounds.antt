-- What a pair does next with the words of a basis; after Higman 1974, the names are this project's own.
--
--     GoesTo shape p X x place         p carries x to the word of X at the place, counted from 0
--     GoesBelow shape p X x place      p carries x to a longer word under the word of X at the place
--     HasRoundStep shape p X x step    what p does with x: it carries x to no word under X, to a word of X, or to one below
--     AreRoundSteps shape p X steps    X is a basis in ascending order, each word with its step
--     IsMarked marks place             the mark at the place is set
use Rattle.std.specs.Prelude.{ℕ, ◌≡◌, ◌≢◌, Bool, true, false, List, [], length, Some, slice_get, slice_index_or, pos}
use Rattle.ht_word.specs.declared.word.Word.{Word}
use Rattle.ht_word.specs.declared.shape.Shape.{Shape}
use Rattle.ht_word.specs.Words.{◌·◌}
use Rattle.ht_pair.specs.declared.row.Row.{Row}
use Rattle.ht_pair.specs.BadChains as chains
use Rattle.ht_pair.specs.HeldBases.{IsHeldBasis}
use Rattle.ht_pair.specs.Steps.{Carries}
use Rattle.ht_quasi.specs.declared.step.Step.{Step}
use Rattle.ht_quasi.specs.declared.step.Step.TheVariants.{Splits, Next, Descends}

pub record GoesTo (shape : Shape) (p : List Row) (X : List Word) (x : Word) (place : ℕ) : Type 0 where
  pub to : Word
  pub here : slice_get X place ≡ Some to
  pub carries : Carries shape p (pos 1) x to

pub record GoesBelow (shape : Shape) (p : List Row) (X : List Word) (x : Word) (place : ℕ) : Type 0 where
  pub above : Word
  pub rest : List ℕ
  pub here : slice_get X place ≡ Some above
  pub longer : rest ≢ []
  pub carries : Carries shape p (pos 1) x (above · rest)

abbrev pub HasRoundStep : Shape → List Row → List Word → Word → Step → Type 0
HasRoundStep shape p X x Splits = chains.Splits shape p X x
HasRoundStep shape p X x (Next place) = GoesTo shape p X x place
HasRoundStep shape p X x (Descends place) = GoesBelow shape p X x place

pub record AreRoundSteps (shape : Shape) (p : List Row) (X : List Word) (steps : List Step) : Type 0 where
  pub held : IsHeldBasis shape X
  pub many : length steps ≡ length X
  pub each : (place : ℕ) (x : Word) (step : Step) → slice_get X place ≡ Some x → slice_get steps place ≡ Some step → HasRoundStep shape p X x step

abbrev pub IsMarked : List Bool → ℕ → Type 0
IsMarked marks place = slice_index_or marks place false ≡ true
