-- The order of an element, and that of its periodic part.
--
--     FixesRoots shape p k           the k-th power carries each root to itself: it is the identity
--     IsOrder shape p k              the k-th power is the first from 1 on that is the identity
--     HasInfiniteOrder shape p       no power from 1 on is the identity
--     IsPeriodicOrder shape p X k    k is the least common multiple of the lengths of the cycles in X, 1 where there are none
use Rattle.std.specs.Prelude.{ℕ, pos, ◌≤◌, List, Contains}
use Rattle.ht_word.specs.declared.word.Word.{Word}
use Rattle.ht_word.specs.declared.shape.Shape.{Shape}
use Rattle.ht_word.specs.Words.{root_word}
use Rattle.ht_num.specs.Numbers.{IsLeastPositive, IsLeastMultiple}
use Rattle.ht_pair.specs.declared.row.Row.{Row}
use Rattle.ht_pair.specs.Steps.{Carries}
use Rattle.ht_pair.specs.Kinds.{IsCycle}

abbrev pub FixesRoots : Shape → List Row → ℕ → Type 0
FixesRoots shape p k = (root : ℕ) → 1 ≤ root → root ≤ shape.r → Carries shape p (pos k) (root_word root) (root_word root)

abbrev pub IsOrder : Shape → List Row → ℕ → Type 0
IsOrder shape p k = IsLeastPositive (FixesRoots shape p) k

abbrev pub HasInfiniteOrder : Shape → List Row → Type 0
HasInfiniteOrder shape p = (k : ℕ) → 1 ≤ k → ¬ FixesRoots shape p k

abbrev pub IsPeriodicOrder : Shape → List Row → List Word → ℕ → Type 0
IsPeriodicOrder shape p X k = IsLeastMultiple (λ m. (x : Word) × Contains X x × IsCycle shape p x m) k
