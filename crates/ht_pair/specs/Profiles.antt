-- The profile of an element, by which its periodic part is known up to conjugacy (after Higman 1974). X is the
-- quasinormal basis of p.
--
--     HasCycles shape p X m c        X has cycle words of length m, and c is the number of their cycles modulo n - 1
--     IsProfile shape p X profile    each length of a cycle with its number of cycles modulo n - 1, in ascending order
use Rattle.std.specs.Prelude.{ℕ, ◌≡◌, ◌≢◌, ◌<◌, ◌-◌, ◌/◌, ◌%◌, ◌↔◌, List, [], length, Contains, AllPairs}
use Rattle.ht_word.specs.declared.word.Word.{Word}
use Rattle.ht_word.specs.declared.shape.Shape.{Shape}
use Rattle.ht_pair.specs.declared.row.Row.{Row}
use Rattle.ht_pair.specs.Kinds.{IsCycle}
use Rattle.ht_pair.specs.Parts.{IsSelected}

pub record HasCycles (shape : Shape) (p : List Row) (X : List Word) (m c : ℕ) : Type 0 where
  pub cycle_words : List Word
  pub selected : IsSelected (λ x. IsCycle shape p x m) X cycle_words
  pub some : cycle_words ≢ []
  pub count : c ≡ (length cycle_words / m) % (shape.n - 1)

pub record IsProfile (shape : Shape) (p : List Row) (X : List Word) (profile : List (ℕ × ℕ)) : Type 0 where
  pub ascending : AllPairs (λ (d : ℕ × ℕ) (e : ℕ × ℕ). d.0 < e.0) profile
  pub same : (m c : ℕ) → Contains profile (m, c) ↔ HasCycles shape p X m c
