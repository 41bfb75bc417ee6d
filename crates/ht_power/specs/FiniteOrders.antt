-- The divisors that are tried where both orders are finite.
--
--     AreTrialDivisors first second ds   numbers from 2 on that divide both orders, in ascending order
use Rattle.std.specs.Prelude.{ℕ, ◌≤◌, ◌<◌, List, All, AllPairs}
use Rattle.std.specs.Int.{◌∣◌}

pub record AreTrialDivisors (first second : ℕ) (ds : List ℕ) : Type 0 where
  pub ascending : AllPairs (λ (c : ℕ) (d : ℕ). c < d) ds
  pub each : All (λ d. (2 ≤ d) × (d ∣ first) × (d ∣ second)) ds
