-- Matching the periodic parts of two elements f and g (after Higman 1974). X is the quasinormal basis of f, and Y that of g.
--
--     HaveOneProfile shape f X g Y    some list is the profile of both
--     IsMatch shape f X g Y rows      the rows conjugate the periodic part of f into that of g: from words under the one to words
--                                     under the other, no more rows than both have words
--     TellsMatch shape f X g Y found  rows that match, where both have one profile; else none are found, and no rows conjugate
use Rattle.std.specs.Prelude.{ℕ, ◌≤◌, ◌+◌, List, length, All, Option, None, Some}
use Rattle.ht_word.specs.declared.word.Word.{Word}
use Rattle.ht_word.specs.declared.shape.Shape.{Shape}
use Rattle.ht_word.specs.Words.{IsUnderSome}
use Rattle.ht_pair.specs.declared.row.Row.{Row}
use Rattle.ht_pair.specs.LocalConjugacy.{ConjugatesOn}
use Rattle.ht_pair.specs.Pairs.{from_words, to_words}
use Rattle.ht_pair.specs.Parts.{IsPeriodicPart}
use Rattle.ht_pair.specs.Profiles.{IsProfile}

pub record HaveOneProfile (shape : Shape) (f : List Row) (X : List Word) (g : List Row) (Y : List Word) : Type 0 where
  pub profile : List (ℕ × ℕ)
  pub first : IsProfile shape f X profile
  pub second : IsProfile shape g Y profile

pub record IsMatch (shape : Shape) (f : List Row) (X : List Word) (g : List Row) (Y : List Word) (rows : List Row) : Type 0 where
  pub first : List Word
  pub second : List Word
  pub first_part : IsPeriodicPart shape f X first
  pub second_part : IsPeriodicPart shape g Y second
  pub few : length rows ≤ length first + length second
  pub conjugates : ConjugatesOn shape rows f first g second
  pub from_under : All (λ u. IsUnderSome u first) (from_words rows)
  pub to_under : All (λ v. IsUnderSome v second) (to_words rows)

abbrev pub TellsMatch : Shape → List Row → List Word → List Row → List Word → Option (List Row) → Type 0
TellsMatch shape f X g Y (Some rows) = HaveOneProfile shape f X g Y × IsMatch shape f X g Y rows
TellsMatch shape f X g Y None = ¬ HaveOneProfile shape f X g Y × ((rows : List Row) (P Q : List Word) → IsPeriodicPart shape f X P → IsPeriodicPart shape g Y Q → ¬ ConjugatesOn shape rows f P g Q)
