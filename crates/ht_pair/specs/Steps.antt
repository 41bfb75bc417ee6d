-- The powers of a pair, word by word, and the prefixes that they carry (Higman 1974).
--
--     StepsAhead p k u w      k moves of p, one after another, lead from u to w
--     Steps p k u w           the same for any whole k: below 0 by the turned rows
--     Carries shape p k u v   the k-th power replaces the prefix u by v: wherever k steps lead from u · z to w, w is v · z
use Rattle.std.specs.Prelude.{ℕ, zero, suc, ℤ, pos, negsuc, ◌≡◌, List}
use Rattle.ht_word.specs.declared.word.Word.{Word}
use Rattle.ht_word.specs.declared.shape.Shape.{Shape}
use Rattle.ht_word.specs.Words.{◌·◌, IsWordOf, IsLetters}
use Rattle.ht_pair.specs.declared.row.Row.{Row}
use Rattle.ht_pair.specs.Pairs.{turned}
use Rattle.ht_pair.specs.Actions.{Moves}

abbrev pub StepsAhead : List Row → ℕ → Word → Word → Type 0
StepsAhead p zero u w = u ≡ w
StepsAhead p (suc k) u w = (t : Word) × StepsAhead p k u t × Moves p t w

abbrev pub Steps : List Row → ℤ → Word → Word → Type 0
Steps p (pos k) u w = StepsAhead p k u w
Steps p (negsuc k) u w = StepsAhead (turned p) (suc k) u w

-- words of the shape alone: no steps lead from foreign words, so these would be carried to all words
pub record Carries (shape : Shape) (p : List Row) (k : ℤ) (u v : Word) : Type 0 where
  pub word : IsWordOf shape u
  pub carried : (z : List ℕ) (w : Word) → IsLetters shape z → Steps p k (u · z) w → w ≡ v · z
