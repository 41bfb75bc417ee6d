-- Fronts of letters that others end with, and failure tables (after Knuth, Morris and Pratt 1977).
--
--     IsTail x z                  z ends with x
--     HoldsFront by z most held   of the fronts of `by` with at most so many letters the longest that z ends with has `held` letters
--     AreBorders by table count   for each of the first so many places the table has the letters of the longest front of `by` that the letters to
--                                 this place end with, but for all of these
use Rattle.std.specs.Prelude.{ℕ, ◌≡◌, ◌≤◌, ◌<◌, ◌+◌, List, ◌++◌, length, take, slice_index}

pub record IsTail (x z : List ℕ) : Type 0 where
  pub front : List ℕ
  pub is : z ≡ front ++ x

pub record HoldsFront (by z : List ℕ) (most held : ℕ) : Type 0 where
  pub within : held ≤ most
  pub tail : IsTail (take held by) z
  pub longest : (k : ℕ) → held < k → k ≤ most → ¬ IsTail (take k by) z

pub record AreBorders (by table : List ℕ) (count : ℕ) : Type 0 where
  pub as_many : count ≤ length table
  pub each : (place : ℕ) → place < count → HoldsFront by (take (place + 1) by) place (slice_index table place)
