-- The marked places of each label.
--
--     IsPiece marks labels count r places           all marked places below count with the label r, in ascending order; r is the first of them
--     ArePieces marks labels pieces                 a piece for each label that stands at a marked place, in order of their first places
--     HaveFirsts marks labels                       the label of a marked place is a marked place with that label, and no later one
--     ArePiecesBelow marks labels count slots pieces   the pieces of the places below count, that of r at the place in the list that stands at r in slots
use Rattle.std.specs.Prelude.{ℕ, ◌≡◌, ◌≤◌, ◌<◌, ◌↔◌, Bool, List, [], length, All, AllPairs, Contains, Some, slice_get, slice_index, slice_index_or}
use Rattle.ht_quasi.specs.Rounds.{IsMarked}

pub record IsPiece (marks : List Bool) (labels : List ℕ) (count r : ℕ) (places : List ℕ) : Type 0 where
  pub first : slice_get places 0 ≡ Some r
  pub ascending : AllPairs (λ (i : ℕ) (j : ℕ). i < j) places
  pub same : (i : ℕ) → Contains places i ↔ ((i < count) × IsMarked marks i × (slice_index labels i ≡ r))

pub record ArePieces (marks : List Bool) (labels : List ℕ) (pieces : List (List ℕ)) : Type 0 where
  pub each : All (λ places. (r : ℕ) × IsPiece marks labels (length marks) r places) pieces
  pub all : (r : ℕ) → IsMarked marks r → slice_index labels r ≡ r → (places : List ℕ) × Contains pieces places × IsPiece marks labels (length marks) r places
  pub ordered : AllPairs (λ A B. (i j : ℕ) → slice_get A 0 ≡ Some i → slice_get B 0 ≡ Some j → i < j) pieces

pub record IsFirstOf (marks : List Bool) (labels : List ℕ) (i : ℕ) : Type 0 where
  pub earlier : slice_index labels i ≤ i
  pub marked : IsMarked marks (slice_index labels i)
  pub settled : slice_index labels (slice_index labels i) ≡ slice_index labels i

abbrev pub HaveFirsts : List Bool → List ℕ → Type 0
HaveFirsts marks labels = (i : ℕ) → IsMarked marks i → IsFirstOf marks labels i

pub record ArePiecesBelow (marks : List Bool) (labels : List ℕ) (count : ℕ) (slots : List ℕ) (pieces : List (List ℕ)) : Type 0 where
  pub as_many : length slots ≡ length marks
  pub each : (s : ℕ) → s < length pieces → (r : ℕ) × IsPiece marks labels count r (slice_index_or pieces s []) × (slice_index slots r ≡ s)
  pub all : (r : ℕ) → r < count → IsMarked marks r → slice_index labels r ≡ r → (slice_index slots r < length pieces) × IsPiece marks labels count r (slice_index_or pieces (slice_index slots r) [])
  pub rising : (q r : ℕ) → q < r → r < count → IsMarked marks q → IsMarked marks r → slice_index labels q ≡ q → slice_index labels r ≡ r → slice_index slots q < slice_index slots r
