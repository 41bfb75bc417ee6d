-- Where the words of a basis stand after marked ones gave way to their children, and what is done with those that stay.
--
--     place_after n marks place       as many words come from the words before the place: there its word, or the first child, stands
--     ArePlacesAfter n marks places   the places after, one for each word
--     IsStepInside step count         the place that the step tells of is below the count
--     AreAllInside steps count        so are the places of all steps
--     StaysAs marks places old new    the step goes to a word, or below one, that isn't marked, and tells its place after
--     IsRightAt shape p X kept place  the step, where there is one, is that of the word of X at the place
--     HaveRoundSteps shape p X count steps  the first words of X have their steps
--     IsRenewed shape p old marks X steps   where the old steps are those of a basis, these are the steps of X, the basis after
use Rattle.std.specs.Prelude.{ℕ, zero, suc, ◌≡◌, ◌+◌, ◌<◌, Bool, false, cond, List, [], ◌∷◌, length, Option, Some, slice_get, slice_index_or, ⊤}
use Rattle.ht_word.specs.declared.word.Word.{Word}
use Rattle.ht_word.specs.declared.shape.Shape.{Shape}
use Rattle.ht_pair.specs.declared.row.Row.{Row}
use Rattle.ht_pair.specs.HeldBases.{expanded_at}
use Rattle.ht_quasi.specs.declared.step.Step.{Step}
use Rattle.ht_quasi.specs.declared.step.Step.TheVariants.{Splits, Next, Descends}
use Rattle.ht_quasi.specs.Rounds.{HasRoundStep, AreRoundSteps}

abbrev pub place_after : ℕ → List Bool → ℕ → ℕ
place_after n marks zero = 0
place_after n [] (suc place) = suc place
place_after n (mark ∷ marks) (suc place) = cond mark n 1 + place_after n marks place

pub record ArePlacesAfter (n : ℕ) (marks : List Bool) (places : List ℕ) : Type 0 where
  pub many : length places ≡ length marks
  pub each : (place : ℕ) → place < length marks → slice_index_or places place 0 ≡ place_after n marks place

abbrev pub IsStepInside : Step → ℕ → Type 0
IsStepInside Splits count = ⊤
IsStepInside (Next place) count = place < count
IsStepInside (Descends place) count = place < count

abbrev pub AreAllInside : List Step → ℕ → Type 0
AreAllInside steps count = (place : ℕ) (step : Step) → slice_get steps place ≡ Some step → IsStepInside step count

abbrev pub StaysAs : List Bool → List ℕ → Step → Step → Type 0
StaysAs marks places Splits kept = kept ≡ Splits
StaysAs marks places (Next place) kept = (slice_index_or marks place false ≡ false) × (kept ≡ Next (slice_index_or places place 0))
StaysAs marks places (Descends place) kept = (slice_index_or marks place false ≡ false) × (kept ≡ Descends (slice_index_or places place 0))

abbrev pub IsRightAt : Shape → List Row → List Word → Option Step → ℕ → Type 0
IsRightAt shape p X kept place = (step : Step) (x : Word) → kept ≡ Some step → slice_get X place ≡ Some x → HasRoundStep shape p X x step

pub record HaveRoundSteps (shape : Shape) (p : List Row) (X : List Word) (count : ℕ) (steps : List Step) : Type 0 where
  pub many : length steps ≡ count
  pub each : (place : ℕ) (x : Word) (step : Step) → slice_get X place ≡ Some x → slice_get steps place ≡ Some step → HasRoundStep shape p X x step

abbrev pub IsRenewed : Shape → List Row → List Step → List Bool → List Word → List Step → Type 0
IsRenewed shape p old marks X steps = (before : List Word) → AreRoundSteps shape p before old → X ≡ expanded_at shape before marks → AreRoundSteps shape p X steps
