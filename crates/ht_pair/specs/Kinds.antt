-- The kinds of words, by least powers (after Higman 1974).
--
--     IsCycle shape p x m          the m-th power is the first from 1 on that carries x to itself
--     Lengthens shape p k x by     the k-th power carries x to x with further letters
--     IsAttractor shape p x m by   the m-th power is the first from 1 on that carries x to x with further letters, and these are its letters
--     IsRepeller shape p x m by    the same for the powers from -1 down
--     IsCycleWord, IsAttractorWord, IsRepellerWord shape p x   x is of this kind, with some m and letters
--     IsPassing shape p x          x is of none of these three kinds
use Rattle.std.specs.Prelude.{ℕ, ℤ, pos, neg_ℤ, ◌≢◌, List, []}
use Rattle.ht_word.specs.declared.word.Word.{Word}
use Rattle.ht_word.specs.declared.shape.Shape.{Shape}
use Rattle.ht_word.specs.Words.{◌·◌}
use Rattle.ht_num.specs.Numbers.{IsLeastPositive}
use Rattle.ht_pair.specs.declared.row.Row.{Row}
use Rattle.ht_pair.specs.Steps.{Carries}

abbrev pub IsCycle : Shape → List Row → Word → ℕ → Type 0
IsCycle shape p x m = IsLeastPositive (λ k. Carries shape p (pos k) x x) m

abbrev pub Lengthens : Shape → List Row → ℤ → Word → List ℕ → Type 0
Lengthens shape p k x by = (by ≢ []) × Carries shape p k x (x · by)

pub record IsAttractor (shape : Shape) (p : List Row) (x : Word) (m : ℕ) (by : List ℕ) : Type 0 where
  pub lengthens : Lengthens shape p (pos m) x by
  pub first : IsLeastPositive (λ k. (z : List ℕ) × Lengthens shape p (pos k) x z) m

pub record IsRepeller (shape : Shape) (p : List Row) (x : Word) (m : ℕ) (by : List ℕ) : Type 0 where
  pub lengthens : Lengthens shape p (neg_ℤ (pos m)) x by
  pub first : IsLeastPositive (λ k. (z : List ℕ) × Lengthens shape p (neg_ℤ (pos k)) x z) m

abbrev pub IsCycleWord : Shape → List Row → Word → Type 0
IsCycleWord shape p x = (m : ℕ) × IsCycle shape p x m

abbrev pub IsAttractorWord : Shape → List Row → Word → Type 0
IsAttractorWord shape p x = (m : ℕ) × (by : List ℕ) × IsAttractor shape p x m by

abbrev pub IsRepellerWord : Shape → List Row → Word → Type 0
IsRepellerWord shape p x = (m : ℕ) × (by : List ℕ) × IsRepeller shape p x m by

abbrev pub IsPassing : Shape → List Row → Word → Type 0
IsPassing shape p x = ¬ IsCycleWord shape p x × ¬ IsAttractorWord shape p x × ¬ IsRepellerWord shape p x
