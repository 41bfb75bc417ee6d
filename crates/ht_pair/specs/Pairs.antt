-- Pairs of bases, which stand for the elements of the group (Higman 1974).
--
--     from_words p     the `from` words of the rows
--     to_words p       their `to` words
--     IsPair shape p   the `from` words are a basis, and the `to` words are a basis
--     longest_of p     the letters of the longest word of the rows
--     turned p         each row turned round
--     identity shape   the rows from each root to itself
use Rattle.std.specs.Prelude.{ℕ, List, map, max}
use Rattle.ht_word.specs.declared.word.Word.{Word}
use Rattle.ht_word.specs.declared.shape.Shape.{Shape}
use Rattle.ht_pair.specs.declared.row.Row.{Row}
use Rattle.ht_pair.specs.Bases.{IsBasis, longest, roots}

abbrev pub from_words : List Row → List Word
from_words p = map (λ row. row.from) p

abbrev pub to_words : List Row → List Word
to_words p = map (λ row. row.to) p

pub record IsPair (shape : Shape) (p : List Row) : Type 0 where
  pub from : IsBasis shape (from_words p)
  pub to : IsBasis shape (to_words p)

abbrev pub longest_of : List Row → ℕ
longest_of p = max (longest (from_words p)) (longest (to_words p))

abbrev pub turned : List Row → List Row
turned p = map (λ row. record { from = row.to; to = row.from }) p

abbrev pub identity : Shape → List Row
identity shape = map (λ x. record { from = x; to = x }) (roots shape)
