-- The rule by which power conjugacy is answered: the trials in their order, and the first refusal that is met.
-- This project's own. Each ending asks for quasinormal bases X of a and Y of b.
--
--     BothFinite shape a b X Y order_a order_b   both infinite parts are empty, and these are the orders
--     BothInfinite shape a b X Y          no infinite part is empty
--     OneInfinite shape a b X Y           exactly one of the two infinite parts is empty
--     Answers shape a b X Y answer        the answer, once the two bases are at hand
--     PowerRule shape a b budget answer   the answer for a and b with this budget of expansions
use Rattle.std.specs.Prelude.{ℕ, ◌≢◌, ◌<◌, ◌↔◌, List, [], ◌∷◌, Contains, AllPairs}
use Rattle.ht_word.specs.declared.word.Word.{Word}
use Rattle.ht_word.specs.declared.shape.Shape.{Shape}
use Rattle.ht_num.specs.Numbers.{IsSomeWide}
use Rattle.ht_pair.specs.declared.row.Row.{Row}
use Rattle.ht_pair.specs.Bases.{TakesAtMost}
use Rattle.ht_pair.specs.SemiNormal.{IsQuasinormal}
use Rattle.ht_pair.specs.Parts.{IsInfinitePart}
use Rattle.ht_pair.specs.Orders.{IsOrder}
use Rattle.ht_pair.specs.PowerTrials.{PowerAnswer, NoPowers, FirstPastBudget, SecondPastBudget, TooWide}
use Rattle.ht_pair.specs.FiniteTrials.{IsTried, FiniteTrials}
use Rattle.ht_pair.specs.Rates.{HasRates}
use Rattle.ht_pair.specs.SignTrials.{BothSigns}

pub record BothFinite (shape : Shape) (a b : List Row) (X Y : List Word) (order_a order_b : ℕ) : Type 0 where
  pub first_empty : IsInfinitePart shape a X []
  pub second_empty : IsInfinitePart shape b Y []
  pub first_order : IsOrder shape a order_a
  pub second_order : IsOrder shape b order_b

pub record BothInfinite (shape : Shape) (a b : List Row) (X Y : List Word) : Type 0 where
  pub first : List Word
  pub second : List Word
  pub first_part : IsInfinitePart shape a X first
  pub second_part : IsInfinitePart shape b Y second
  pub first_some : first ≢ []
  pub second_some : second ≢ []

pub data OneInfinite (shape : Shape) (a b : List Row) (X Y : List Word) : Type 0 where
  first_infinite : {I : List Word} → IsInfinitePart shape a X I → I ≢ [] → IsInfinitePart shape b Y [] → OneInfinite shape a b X Y
  second_infinite : {J : List Word} → IsInfinitePart shape a X [] → IsInfinitePart shape b Y J → J ≢ [] → OneInfinite shape a b X Y

pub data Answers (shape : Shape) (a b : List Row) (X Y : List Word) : PowerAnswer → Type 0 where
  one_infinite : OneInfinite shape a b X Y → Answers shape a b X Y NoPowers
  wide_order : {order_a order_b : ℕ} → BothFinite shape a b X Y order_a order_b → IsSomeWide (order_a ∷ order_b ∷ []) → Answers shape a b X Y TooWide
  finite : {order_a order_b : ℕ} {divisors : List ℕ} {answer : PowerAnswer} → BothFinite shape a b X Y order_a order_b → ¬ IsSomeWide (order_a ∷ order_b ∷ []) → AllPairs (λ (c : ℕ) (d : ℕ). c < d) divisors → ((d : ℕ) → Contains divisors d ↔ IsTried shape a b X Y order_a order_b d) → FiniteTrials shape a b order_a order_b divisors answer → Answers shape a b X Y answer
  wide_rates : {M ahead_a behind_a ahead_b behind_b : ℕ} → BothInfinite shape a b X Y → HasRates shape a b X Y M ahead_a behind_a ahead_b behind_b → IsSomeWide (M ∷ ahead_a ∷ behind_a ∷ ahead_b ∷ behind_b ∷ []) → Answers shape a b X Y TooWide
  infinite : {M ahead_a behind_a ahead_b behind_b : ℕ} {answer : PowerAnswer} → BothInfinite shape a b X Y → HasRates shape a b X Y M ahead_a behind_a ahead_b behind_b → ¬ IsSomeWide (M ∷ ahead_a ∷ behind_a ∷ ahead_b ∷ behind_b ∷ []) → BothSigns shape a b X Y M ahead_a behind_a ahead_b behind_b answer → Answers shape a b X Y answer

pub data PowerRule (shape : Shape) (a b : List Row) (budget : ℕ) : PowerAnswer → Type 0 where
  first_past : {X : List Word} → IsQuasinormal shape a X → ¬ TakesAtMost shape X budget → PowerRule shape a b budget FirstPastBudget
  second_past : {X Y : List Word} → IsQuasinormal shape a X → IsQuasinormal shape b Y → TakesAtMost shape X budget → ¬ TakesAtMost shape Y budget → PowerRule shape a b budget SecondPastBudget
  answers : {X Y : List Word} {answer : PowerAnswer} → IsQuasinormal shape a X → IsQuasinormal shape b Y → TakesAtMost shape X budget → TakesAtMost shape Y budget → Answers shape a b X Y answer → PowerRule shape a b budget answer
