-- The two words of a row, by their side, and the rows of a pair in order.
--
--     word_on side row                 the word on that side
--     words_on side p                  these words of the rows
--     IsSortedPair shape rows sorted   the same rows, in ascending order of `from`, and they are a pair
use Rattle.std.specs.Prelude.{List, map, IsPermutation}
use Rattle.ht_word.specs.declared.word.Word.{Word}
use Rattle.ht_word.specs.declared.shape.Shape.{Shape}
use Rattle.ht_word.specs.Words.{IsAscending}
use Rattle.ht_pair.specs.declared.row.Row.{Row}
use Rattle.ht_pair.specs.declared.side.Side.{Side}
use Rattle.ht_pair.specs.declared.side.Side.TheVariants.{From, To}
use Rattle.ht_pair.specs.Pairs.{IsPair, from_words}

abbrev pub word_on : Side → Row → Word
word_on From row = row.from
word_on To row = row.to

abbrev pub words_on : Side → List Row → List Word
words_on side p = map (word_on side) p

pub record IsSortedPair (shape : Shape) (rows sorted : List Row) : Type 0 where
  pub permuted : IsPermutation rows sorted
  pub pair : IsPair shape sorted
  pub ascending : IsAscending (from_words sorted)
