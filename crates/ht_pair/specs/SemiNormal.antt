-- Semi-normal bases, after Higman 1974, and the least one; its name, quasinormal, is this project's own.
--
--     CarriesUnder shape p k u X   the k-th power of p carries u to a word under X
--     StaysAhead shape p X u       each power from 0 on carries u to a word under X
--     StaysBehind shape p X u      each power from 0 down does
--     IsSemiNormal shape p X       a basis each of whose words stays ahead or behind
--     IsQuasinormal shape p X      the least semi-normal basis, in ascending order: every semi-normal basis is under it
use Rattle.std.specs.Prelude.{ℕ, ℤ, pos, neg_ℤ, ◌⊎◌, List, All}
use Rattle.ht_word.specs.declared.word.Word.{Word}
use Rattle.ht_word.specs.declared.shape.Shape.{Shape}
use Rattle.ht_word.specs.Words.{IsUnderSome, IsAscending}
use Rattle.ht_pair.specs.declared.row.Row.{Row}
use Rattle.ht_pair.specs.Bases.{IsBasis, IsAllUnder}
use Rattle.ht_pair.specs.Steps.{Carries}

pub record CarriesUnder (shape : Shape) (p : List Row) (k : ℤ) (u : Word) (X : List Word) : Type 0 where
  pub to : Word
  pub carries : Carries shape p k u to
  pub under : IsUnderSome to X

abbrev pub StaysAhead : Shape → List Row → List Word → Word → Type 0
StaysAhead shape p X u = (k : ℕ) → CarriesUnder shape p (pos k) u X

abbrev pub StaysBehind : Shape → List Row → List Word → Word → Type 0
StaysBehind shape p X u = (k : ℕ) → CarriesUnder shape p (neg_ℤ (pos k)) u X

pub record IsSemiNormal (shape : Shape) (p : List Row) (X : List Word) : Type 0 where
  pub basis : IsBasis shape X
  pub stays : All (λ x. StaysAhead shape p X x ⊎ StaysBehind shape p X x) X

pub record IsQuasinormal (shape : Shape) (p : List Row) (X : List Word) : Type 0 where
  pub semi_normal : IsSemiNormal shape p X
  pub ascending : IsAscending X
  pub least : (W : List Word) → IsSemiNormal shape p W → IsAllUnder W X
