-- The ponds of p, listed. This project's own. X is the quasinormal basis of p.
--
--     first_words ponds           the first words of the ponds
--     ArePonds shape p X ponds    all ponds, each once, in ascending order of their first words
--     HasPond shape p X u found   the pond of which u is the first word, where there is one
--     AreFound shape p X words found   the ponds of these words, from the last one to the first; each of them leaves X by one step
use Rattle.std.specs.Prelude.{ℕ, suc, ◌+◌, ◌≡◌, ◌↔◌, List, length, map, Contains, Option, None, Some, slice_get}
use Rattle.ht_word.specs.declared.word.Word.{Word}
use Rattle.ht_word.specs.declared.shape.Shape.{Shape}
use Rattle.ht_word.specs.Words.{IsAscending}
use Rattle.ht_pair.specs.declared.row.Row.{Row}
use Rattle.ht_pair.specs.Orbits.{IsPond}
use Rattle.ht_types.specs.declared.sharing.Pond.{Pond}
use Rattle.ht_share.specs.InnerWords.{IsInner}

abbrev pub first_words : List Pond → List Word
first_words ponds = map (λ pond. pond.from) ponds

pub record ArePonds (shape : Shape) (p : List Row) (X : List Word) (ponds : List Pond) : Type 0 where
  pub ascending : IsAscending (first_words ponds)
  pub same : (u : Word) (k : ℕ) (v : Word) → Contains ponds (record { from = u; steps = k; to = v }) ↔ IsPond shape p X u k v

abbrev pub HasPond : Shape → List Row → List Word → Word → Option Pond → Type 0
HasPond shape p X u None = (k : ℕ) (v : Word) → ¬ IsPond shape p X u k v
HasPond shape p X u (Some pond) = (pond.from ≡ u) × IsPond shape p X u pond.steps pond.to

pub record AreFound (shape : Shape) (p : List Row) (X words : List Word) (found : List (Option Pond)) : Type 0 where
  pub many : length found ≡ length words
  pub each : (i j : ℕ) (u : Word) (pond : Option Pond) → suc (i + j) ≡ length words → slice_get words i ≡ Some u → slice_get found j ≡ Some pond → IsInner shape p X u × HasPond shape p X u pond
