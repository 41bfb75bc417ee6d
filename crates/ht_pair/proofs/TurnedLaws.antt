-- What the turned pair carries.
use Rattle.std.proofs.Common.{zero, suc, List, sym, subst, ℤ, pos, negsuc, neg_ℤ}
use Rattle.ht_word.specs.Words.{◌·◌}
use Rattle.ht_word.specs.declared.shape.Shape.{Shape}
use Rattle.ht_word.specs.declared.word.Word.{Word}
use Rattle.ht_pair.specs.Pairs.{turned}
use Rattle.ht_pair.specs.Steps.{StepsAhead, Steps, Carries}
use Rattle.ht_pair.specs.declared.row.Row.{Row}
use Rattle.ht_pair.proofs.MovesLaws.{turned-turned}

-- k steps of the turned pair are -k steps
pub steps_of_turned : (p : List Row) (k : ℤ) (u w : Word) → Steps (turned p) k u w → Steps p (neg_ℤ k) u w
steps_of_turned p (pos zero) u w s = s
steps_of_turned p (pos (suc k)) u w s = s
steps_of_turned p (negsuc k) u w s = subst (λ (q : List Row). StepsAhead q (suc k) u w) (turned-turned p) s

-- -k steps are k steps of the turned pair
pub steps_to_turned : (p : List Row) (k : ℤ) (u w : Word) → Steps p (neg_ℤ k) u w → Steps (turned p) k u w
steps_to_turned p (pos zero) u w s = s
steps_to_turned p (pos (suc k)) u w s = s
steps_to_turned p (negsuc k) u w s = subst (λ (q : List Row). StepsAhead q (suc k) u w) (sym (turned-turned p)) s

-- the k-th power of the turned pair is the power -k
pub carries_of_turned : (shape : Shape) (p : List Row) (k : ℤ) (u v : Word) → Carries shape (turned p) k u v → Carries shape p (neg_ℤ k) u v
carries_of_turned shape p k u v c = record { word = c.word; carried = λ z w hz s. c.carried z w hz (steps_to_turned p k (u · z) w s) }

-- the power -k is the k-th power of the turned pair
pub carries_to_turned : (shape : Shape) (p : List Row) (k : ℤ) (u v : Word) → Carries shape p (neg_ℤ k) u v → Carries shape (turned p) k u v
carries_to_turned shape p k u v c = record { word = c.word; carried = λ z w hz s. c.carried z w hz (steps_of_turned p k (u · z) w s) }
