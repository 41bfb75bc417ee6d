-- Values of relations between parts: what one sends the long words under a word to, told by a word and a power. This project's own.
--
--     IsValue shape F g u t i   F sends each long word under u to where i steps of g lead from t and the same letters
use Rattle.std.specs.Prelude.{ℕ, ℤ, ◌≤◌, List, length}
use Rattle.ht_word.specs.declared.word.Word.{Word}
use Rattle.ht_word.specs.declared.shape.Shape.{Shape}
use Rattle.ht_word.specs.Words.{◌·◌, IsLetters}
use Rattle.ht_pair.specs.declared.row.Row.{Row}
use Rattle.ht_pair.specs.Steps.{Steps}

pub record IsValue (shape : Shape) (F : Word → Word → Type 0) (g : List Row) (u t : Word) (i : ℤ) : Type 0 where
  pub bound : ℕ
  pub at : (z : List ℕ) → IsLetters shape z → bound ≤ length z → (y : Word) × F (u · z) y × Steps g i (t · z) y
