-- How a pair moves words, which pairs move them alike, and the canonical pair of an element.
-- A pair moves each word that is long enough.
--
--     Moves p u v               for a row s to t and letters z, u is s · z and v is t · z
--     Alike shape p q           wherever p and q both move a word, they move it to the same word
--     child_row u v a           the row u to v with one more letter on both sides
--     IsReduced shape p         no u and v have all n rows u1 to v1, u2 to v2, and so on
--     IsCanonical shape q       a reduced pair, its rows in ascending order of `from`
--     IsCanonicalFor shape q p  q is canonical and moves words as p does
use Rattle.std.specs.Prelude.{ℕ, ◌≡◌, ◌≤◌, List, Contains}
use Rattle.ht_word.specs.declared.word.Word.{Word}
use Rattle.ht_word.specs.declared.shape.Shape.{Shape}
use Rattle.ht_word.specs.Words.{◌·◌, child, IsWordOf, IsAscending}
use Rattle.ht_pair.specs.declared.row.Row.{Row}
use Rattle.ht_pair.specs.Pairs.{IsPair, from_words}

pub record Moves (p : List Row) (u v : Word) : Type 0 where
  pub row : Row
  pub rest : List ℕ
  pub listed : Contains p row
  pub from : u ≡ row.from · rest
  pub to : v ≡ row.to · rest

abbrev pub Alike : Shape → List Row → List Row → Type 0
Alike shape p q = (w v v' : Word) → IsWordOf shape w → Moves p w v → Moves q w v' → v ≡ v'

abbrev pub child_row : Word → Word → ℕ → Row
child_row u v a = record { from = child u a; to = child v a }

abbrev pub IsReduced : Shape → List Row → Type 0
IsReduced shape p = (u v : Word) → ¬ ((a : ℕ) → 1 ≤ a → a ≤ shape.n → Contains p (child_row u v a))

pub record IsCanonical (shape : Shape) (q : List Row) : Type 0 where
  pub pair : IsPair shape q
  pub reduced : IsReduced shape q
  pub ascending : IsAscending (from_words q)

pub record IsCanonicalFor (shape : Shape) (q p : List Row) : Type 0 where
  pub form : IsCanonical shape q
  pub open form use *
  pub alike : Alike shape q p
