-- The power rule where both orders are finite: one trial for each divisor. This project's own.
--
--     IsTried shape a b X Y order_a order_b d        d is at least 2, divides both orders and is at most the longest cycle of each basis
--     FiniteTrials shape a b order_a order_b ds answer   the answer of the trials of these divisors, in their order
use Rattle.std.specs.Prelude.{ℕ, pos, ◌≤◌, ◌/◌, List, [], ◌∷◌, Contains}
use Rattle.std.specs.Int.{◌∣◌}
use Rattle.ht_word.specs.declared.word.Word.{Word}
use Rattle.ht_word.specs.declared.shape.Shape.{Shape}
use Rattle.ht_pair.specs.declared.row.Row.{Row}
use Rattle.ht_pair.specs.Conjugacy.{AreConjugate}
use Rattle.ht_pair.specs.Kinds.{IsCycle}
use Rattle.ht_pair.specs.PowerSizes.{Plus}
use Rattle.ht_pair.specs.PowerTrials.{PowerAnswer, Powers, NoPowers, TooLarge, IsPrinted, TrialIsLarge, TrialCompares}

pub record IsTried (shape : Shape) (a b : List Row) (X Y : List Word) (order_a order_b d : ℕ) : Type 0 where
  pub not_one : 2 ≤ d
  pub first : d ∣ order_a
  pub second : d ∣ order_b
  pub some_cycle : (x : Word) × (m : ℕ) × Contains X x × IsCycle shape a x m × (d ≤ m)
  pub some_other : (y : Word) × (m : ℕ) × Contains Y y × IsCycle shape b y m × (d ≤ m)

pub data FiniteTrials (shape : Shape) (a b : List Row) (order_a order_b : ℕ) : List ℕ → PowerAnswer → Type 0 where
  none_left : FiniteTrials shape a b order_a order_b [] NoPowers
  large : {d : ℕ} {ds : List ℕ} {rows letters : ℕ} → TrialIsLarge shape a b Plus (order_a / d) (order_b / d) rows letters → FiniteTrials shape a b order_a order_b (d ∷ ds) (TooLarge rows letters)
  found : {d : ℕ} {ds : List ℕ} {f g h : List Row} → TrialCompares shape a b Plus (order_a / d) (order_b / d) f g → IsPrinted shape f g h → FiniteTrials shape a b order_a order_b (d ∷ ds) (Powers (pos (order_a / d)) (pos (order_b / d)) h)
  go_on : {d : ℕ} {ds : List ℕ} {f g : List Row} {answer : PowerAnswer} → TrialCompares shape a b Plus (order_a / d) (order_b / d) f g → ¬ AreConjugate shape f g → FiniteTrials shape a b order_a order_b ds answer → FiniteTrials shape a b order_a order_b (d ∷ ds) answer
