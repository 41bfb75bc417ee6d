-- The power rule where both orders are infinite: a trial for each sign. This project's own.
-- X and Y are the quasinormal bases of a and of b.
--
--     BothParts                                   the two parts of a and the two parts of b
--     HasBothParts shape a b X Y parts            these are the parts of a and of b
--     SignCompares shape a b X Y sign i j f g     i and j aren't wide, no part and no power of the trial is large, and f and g are
--                                                 the powers of the infinite parts by i and by j, with the sign
--     IsCommonOrder shape a b X Y N               N is the least common multiple of the two periodic orders
--     SignTrial shape a b X Y sign i j later answer   the answer of the trial of one sign with the numbers i and j; where f and g
--                                                 aren't conjugate, what comes later answers
--     SignAnswers .. answer                       the sign is tried where the two ratios of rates are equal; its numbers are then the
--                                                 first ratio's, in lowest terms, times M. Otherwise what comes later answers
--     BothSigns .. answer                         first the sign plus, with the rates of b at attractors over those of a at attractors;
--                                                 then minus, with the rates of b at repellers over those of a at attractors
use Rattle.std.specs.Prelude.{ℕ, pos, ◌≡◌, ◌≢◌, ◌*◌, ◌⊎◌, List, [], ◌∷◌}
use Rattle.ht_word.specs.declared.word.Word.{Word}
use Rattle.ht_word.specs.declared.shape.Shape.{Shape}
use Rattle.ht_num.specs.Numbers.{IsLeastMultiple, IsRatio, IsSomeWide}
use Rattle.ht_pair.specs.declared.row.Row.{Row}
use Rattle.ht_pair.specs.Conjugacy.{AreConjugate}
use Rattle.ht_pair.specs.Parts.{HasParts}
use Rattle.ht_pair.specs.Orders.{IsPeriodicOrder}
use Rattle.ht_pair.specs.PowerSizes.{Sign, Plus, Minus, signed, IsFirstLargeOf, NoneLargeOf}
use Rattle.ht_pair.specs.PowerTrials.{PowerAnswer, Powers, NoPowers, TooLarge, TooWide, IsPrinted, TrialIsLarge, TrialCompares}

pub record BothParts : Type 0 where
  pub a_periodic : List Row
  pub a_infinite : List Row
  pub b_periodic : List Row
  pub b_infinite : List Row

-- in the order in which they are looked at
abbrev pub all_parts : BothParts → List (List Row)
all_parts parts = parts.a_periodic ∷ parts.a_infinite ∷ parts.b_periodic ∷ parts.b_infinite ∷ []

pub record HasBothParts (shape : Shape) (a b : List Row) (X Y : List Word) (parts : BothParts) : Type 0 where
  pub first : HasParts shape a X parts.a_periodic parts.a_infinite
  pub second : HasParts shape b Y parts.b_periodic parts.b_infinite

pub record SignCompares (shape : Shape) (a b : List Row) (X Y : List Word) (sign : Sign) (i j : ℕ) (f g : List Row) : Type 0 where
  pub fit : ¬ IsSomeWide (i ∷ j ∷ [])
  pub parts : BothParts
  pub has_parts : HasBothParts shape a b X Y parts
  pub parts_small : NoneLargeOf shape (all_parts parts)
  pub compares : TrialCompares shape parts.a_infinite parts.b_infinite sign i j f g

abbrev pub IsCommonOrder : Shape → List Row → List Row → List Word → List Word → ℕ → Type 0
IsCommonOrder shape a b X Y N = IsLeastMultiple (λ k. IsPeriodicOrder shape a X k ⊎ IsPeriodicOrder shape b Y k) N

pub data SignTrial (shape : Shape) (a b : List Row) (X Y : List Word) (sign : Sign) (i j : ℕ) (later : PowerAnswer → Type 0) : PowerAnswer → Type 0 where
  wide : IsSomeWide (i ∷ j ∷ []) → SignTrial shape a b X Y sign i j later TooWide
  parts_large : {parts : BothParts} {rows letters : ℕ} → ¬ IsSomeWide (i ∷ j ∷ []) → HasBothParts shape a b X Y parts → IsFirstLargeOf shape (all_parts parts) rows letters → SignTrial shape a b X Y sign i j later (TooLarge rows letters)
  powers_large : {parts : BothParts} {rows letters : ℕ} → ¬ IsSomeWide (i ∷ j ∷ []) → HasBothParts shape a b X Y parts → NoneLargeOf shape (all_parts parts) → TrialIsLarge shape parts.a_infinite parts.b_infinite sign i j rows letters → SignTrial shape a b X Y sign i j later (TooLarge rows letters)
  go_on : {f g : List Row} {answer : PowerAnswer} → SignCompares shape a b X Y sign i j f g → ¬ AreConjugate shape f g → later answer → SignTrial shape a b X Y sign i j later answer
  found_wide : {f g : List Row} {N : ℕ} → SignCompares shape a b X Y sign i j f g → AreConjugate shape f g → IsCommonOrder shape a b X Y N → IsSomeWide (N ∷ (i * N) ∷ (j * N) ∷ []) → SignTrial shape a b X Y sign i j later TooWide
  found : {f g h : List Row} {N : ℕ} → SignCompares shape a b X Y sign i j f g → IsPrinted shape f g h → IsCommonOrder shape a b X Y N → ¬ IsSomeWide (N ∷ (i * N) ∷ (j * N) ∷ []) → SignTrial shape a b X Y sign i j later (Powers (pos (i * N)) (signed sign (j * N)) h)

pub data SignAnswers (shape : Shape) (a b : List Row) (X Y : List Word) (sign : Sign) (M ahead behind over over_behind : ℕ) (later : PowerAnswer → Type 0) (answer : PowerAnswer) : Type 0 where
  tried : {p q : ℕ} → over * behind ≡ over_behind * ahead → IsRatio over ahead p q → SignTrial shape a b X Y sign (p * M) (q * M) later answer → SignAnswers shape a b X Y sign M ahead behind over over_behind later answer
  left_out : over * behind ≢ over_behind * ahead → later answer → SignAnswers shape a b X Y sign M ahead behind over over_behind later answer

abbrev pub BothSigns : Shape → List Row → List Row → List Word → List Word → ℕ → ℕ → ℕ → ℕ → ℕ → PowerAnswer → Type 0
BothSigns shape a b X Y M ahead_a behind_a ahead_b behind_b answer =
    SignAnswers shape a b X Y Plus M ahead_a behind_a ahead_b behind_b (λ later.
    SignAnswers shape a b X Y Minus M ahead_a behind_a behind_b ahead_b (λ last. last ≡ NoPowers) later) answer
