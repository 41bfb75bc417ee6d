-- The limits of a group G(n, r): the program's own, since Higman's n and r have no upper ends.
--
--     IsShape n r    n is from 2 to 9, and r from 1 to 256
use Rattle.std.specs.Prelude.{ℕ, ◌≤◌}

pub record IsShape (n r : ℕ) : Type 0 where
  pub letters_low : 2 ≤ n
  pub letters_high : n ≤ 9
  pub roots_low : 1 ≤ r
  pub roots_high : r ≤ 256
