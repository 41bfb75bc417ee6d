-- Tables: rows that move each word to one word at most. They need not move all words, nor reach all.
--
--     IsTable shape p            the `from` words are words of the shape, apart, and in ascending order
--     IsMergedTable shape p q    q is a reduced table that comes from p by merges
use Rattle.std.specs.Prelude.{List, All}
use Rattle.ht_word.specs.declared.shape.Shape.{Shape}
use Rattle.ht_word.specs.Words.{IsWordOf, IsAscending}
use Rattle.ht_pair.specs.declared.row.Row.{Row}
use Rattle.ht_pair.specs.Bases.{IsPrefixFree}
use Rattle.ht_pair.specs.Pairs.{from_words}
use Rattle.ht_pair.specs.Actions.{IsReduced}
use Rattle.ht_pair.specs.Merges.{Merges}

pub record IsTable (shape : Shape) (p : List Row) : Type 0 where
  pub words : All (IsWordOf shape) (from_words p)
  pub prefix_free : IsPrefixFree (from_words p)
  pub ascending : IsAscending (from_words p)

pub record IsMergedTable (shape : Shape) (p q : List Row) : Type 0 where
  pub merges : Merges shape p q
  pub table : IsTable shape q
  pub reduced : IsReduced shape q
