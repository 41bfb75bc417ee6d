-- Steps of long words.
use Rattle.std.proofs.Common.{ℕ, ◌+◌, ◌≤◌, List, length, subst, arith, ℤ, ◌+ℤ◌}
use Rattle.ht_word.specs.Words.{◌·◌, IsLetters, IsWordOf}
use Rattle.ht_word.specs.declared.shape.Shape.{Shape}
use Rattle.ht_word.specs.declared.word.Word.{Word}
use Rattle.ht_word.proofs.WordLaws.{length-after, word_after}
use Rattle.ht_pair.specs.Pairs.{IsPair}
use Rattle.ht_pair.specs.Steps.{Steps, Carries}
use Rattle.ht_pair.specs.declared.row.Row.{Row}
use Rattle.ht_pair.proofs.PrefixMapLaws.{length-carried}
use Rattle.ht_pair.proofs.StepsLaws.{steps_add, steps_map}

-- from a word that is carried, with long letters behind it, steps lead on
pub steps_long : (shape : Shape) (p : List Row) (pair : IsPair shape p) (k : ℤ) (u v : Word) → Carries shape p k u v → (y : List ℕ) → IsLetters shape y
    → (steps_map shape p pair k).ahead.bound ≤ length y → Steps p k (u · y) (v · y)
steps_long shape p pair k u v c y hy l =
    let x = (steps_map shape p pair k).ahead.total (u · y) (word_after shape u y c.word hy) (omega (arith, length-after u y)) in
    subst (Steps p k (u · y)) (c.carried y x.0 hy x.1) x.1

-- k steps more
pub record LeadsFurther (p : List Row) (i k : ℤ) (t y : Word) : Type 0 where
  pub word : Word
  pub more : Steps p k y word
  pub whole : Steps p (i +ℤ k) t word

-- from a word that i steps lead to from a long word, k steps lead on
pub leads_on : (shape : Shape) (p : List Row) (pair : IsPair shape p) (i k : ℤ) (t y : Word) → IsWordOf shape t → Steps p i t y
    → (steps_map shape p pair i).ahead.bound + (steps_map shape p pair k).ahead.bound ≤ length t.letters → LeadsFurther p i k t y
leads_on shape p pair i k t y ht s l =
    let first = (steps_map shape p pair i).ahead in
    let second = (steps_map shape p pair k).ahead in
    let w = second.total y (first.word t y ht s) (length-carried shape (Steps p i) first t y second.bound ht l s) in
    record { word = w.0; more = w.1; whole = steps_add shape p pair i k t y w.0 ht s w.1 }
