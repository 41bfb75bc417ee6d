-- How fast an element draws words to its attractors: the letters that it adds in a common period. This project's own.
-- X and Y are the quasinormal bases of a and of b.
--
--     IsPeriod shape p X m            m is the period of an attractor or of a repeller in X
--     IsRateSum IsKind X M total      the sum of (number of letters · M / m) over all words of X of the kind
--     HasRates shape a b X Y M ..     M is the least common multiple of the periods of a and of b; then come the sums over the
--                                     attractors and over the repellers of a, and the same of b
use Rattle.std.specs.Prelude.{ℕ, ◌≡◌, ◌*◌, ◌/◌, ◌⊎◌, List, length, sum, Contains}
use Rattle.std.specs.List.{AllZip}
use Rattle.ht_word.specs.declared.word.Word.{Word}
use Rattle.ht_word.specs.declared.shape.Shape.{Shape}
use Rattle.ht_num.specs.Numbers.{IsLeastMultiple}
use Rattle.ht_pair.specs.declared.row.Row.{Row}
use Rattle.ht_pair.specs.Kinds.{IsAttractor, IsRepeller}
use Rattle.ht_pair.specs.Parts.{IsSelected}

abbrev pub IsPeriod : Shape → List Row → List Word → ℕ → Type 0
IsPeriod shape p X m = (x : Word) × (by : List ℕ) × Contains X x × (IsAttractor shape p x m by ⊎ IsRepeller shape p x m by)

pub record IsRateSum (IsKind : Word → ℕ → List ℕ → Type 0) (X : List Word) (M total : ℕ) : Type 0 where
  pub words : List Word
  pub rates : List ℕ
  pub selected : IsSelected (λ x. (m : ℕ) × (by : List ℕ) × IsKind x m by) X words
  pub rated : AllZip (λ x rate. (m : ℕ) × (by : List ℕ) × IsKind x m by × (rate ≡ (length by * M) / m)) words rates
  pub total_is : total ≡ sum rates

pub record HasRates (shape : Shape) (a b : List Row) (X Y : List Word) (M ahead_a behind_a ahead_b behind_b : ℕ) : Type 0 where
  pub period : IsLeastMultiple (λ m. IsPeriod shape a X m ⊎ IsPeriod shape b Y m) M
  pub first_ahead : IsRateSum (IsAttractor shape a) X M ahead_a
  pub first_behind : IsRateSum (IsRepeller shape a) X M behind_a
  pub second_ahead : IsRateSum (IsAttractor shape b) Y M ahead_b
  pub second_behind : IsRateSum (IsRepeller shape b) Y M behind_b
