-- Walks by the steps of the words of a basis, told by their places, from 0.
--
--     StayInside steps                the words that steps go to are at places of the list
--     SplitsAfter steps k place       k steps lead from the place to one that splits
--     FollowsIn steps k start place   k steps lead from the start to the place
--     IsOnWalk steps k start place    the place is on the walk of k steps from the start to one that splits
--     IsBadPlace ahead behind place   it is on such a walk from a start that splits by the steps back
--     AreBadPlaces ahead behind marks   bad places are marked, all that begin such a walk among them, and no others
use Rattle.std.specs.Prelude.{ℕ, zero, suc, ◌≡◌, ◌+◌, ◌<◌, Bool, List, length, Some, slice_get}
use Rattle.ht_quasi.specs.declared.step.Step.{Step}
use Rattle.ht_quasi.specs.declared.step.Step.TheVariants.{Splits, Next}
use Rattle.ht_quasi.specs.Rounds.{IsMarked}

abbrev pub StayInside : List Step → Type 0
StayInside steps = (place next : ℕ) → slice_get steps place ≡ Some (Next next) → next < length steps

unfoldable pub SplitsAfter : List Step → ℕ → ℕ → Type 0
SplitsAfter steps zero place = slice_get steps place ≡ Some Splits
SplitsAfter steps (suc k) place = (next : ℕ) × (slice_get steps place ≡ Some (Next next)) × SplitsAfter steps k next

unfoldable pub FollowsIn : List Step → ℕ → ℕ → ℕ → Type 0
FollowsIn steps zero start place = start ≡ place
FollowsIn steps (suc k) start place = (before : ℕ) × FollowsIn steps k start before × (slice_get steps before ≡ Some (Next place))

pub record IsOnWalk (steps : List Step) (k start place : ℕ) : Type 0 where
  pub before : ℕ
  pub behind : ℕ
  pub all : before + behind ≡ k
  pub follows : FollowsIn steps before start place
  pub leads : SplitsAfter steps behind place

pub record IsBadPlace (ahead behind : List Step) (place : ℕ) : Type 0 where
  pub start : ℕ
  pub joined : slice_get behind start ≡ Some Splits
  pub steps : ℕ
  pub on : IsOnWalk ahead steps start place

pub record AreBadPlaces (ahead behind : List Step) (marks : List Bool) : Type 0 where
  pub many : length marks ≡ length ahead
  pub bad : (place : ℕ) → IsMarked marks place → IsBadPlace ahead behind place
  pub all : (start k : ℕ) → slice_get behind start ≡ Some Splits → k < length ahead → SplitsAfter ahead k start → IsMarked marks start
