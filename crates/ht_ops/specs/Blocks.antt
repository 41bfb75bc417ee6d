-- The rows of a product, block by block: a block has the rows that one row of the first pair gives.
--
--     IsPartOf shape q row x       x moves words under row.from as the row and then q do
--     IsBlock shape q row block    such rows, apart and ascending, and one wherever q moves what the row gives
--     IsGiven q row block          the row and then q: one row where a row of q moves all that the row gives, and else a
--                                  row for each of the run below its `to` word
--     HasGiven q row old new       these rows are added behind rows
--     IsPartOfSome shape q p x     x moves words as some row of p and then q do
--     AreBlocks shape q p rows     the blocks of the rows of p, in order
--     IsFullProduct shape p q s    the product of p and q that moves each word that p moves to a word that q moves, and no
--                                  other word; its rows are in ascending order
--     IsRun p w run                the rows whose `from` words are under w, which stand together
--     moved_by row other           the row, where the `from` word of the other is a prefix of its `to` word, and then the other
--     carried_by row other         the row, where its `to` word is a prefix of the `from` word of the other, and then the other
use Rattle.std.specs.Prelude.{◌≡◌, ◌↔◌, List, [], ◌∷◌, ◌++◌, ℕ, length, drop, map, Contains}
use Rattle.ht_word.specs.declared.word.Word.{Word}
use Rattle.ht_word.specs.declared.shape.Shape.{Shape}
use Rattle.ht_word.specs.Words.{◌·◌, IsLetters, IsUnder, IsUnderSome, IsAscending}
use Rattle.ht_pair.specs.declared.row.Row.{Row}
use Rattle.ht_pair.specs.Actions.{Moves}
use Rattle.ht_pair.specs.Bases.{IsPrefixFree}
use Rattle.ht_pair.specs.Pairs.{from_words}
use Rattle.ht_pair.specs.Products.{IsProduct}

pub record IsPartOf (shape : Shape) (q : List Row) (row x : Row) : Type 0 where
  pub rest : List ℕ
  pub letters : IsLetters shape rest
  pub from : x.from ≡ row.from · rest
  pub moves : Moves q (row.to · rest) x.to

pub record IsBlock (shape : Shape) (q : List Row) (row : Row) (block : List Row) : Type 0 where
  pub parts : (x : Row) → Contains block x → IsPartOf shape q row x
  pub prefix_free : IsPrefixFree (from_words block)
  pub ascending : IsAscending (from_words block)
  pub covered : (z : List ℕ) → IsUnderSome (row.to · z) (from_words q) → IsUnderSome (row.from · z) (from_words block)

pub record IsPartOfSome (shape : Shape) (q p : List Row) (x : Row) : Type 0 where
  pub row : Row
  pub listed : Contains p row
  pub part : IsPartOf shape q row x

pub record AreBlocks (shape : Shape) (q p rows : List Row) : Type 0 where
  pub parts : (x : Row) → Contains rows x → IsPartOfSome shape q p x
  pub prefix_free : IsPrefixFree (from_words rows)
  pub ascending : IsAscending (from_words rows)
  pub covered : (row : Row) → Contains p row → (z : List ℕ) → IsUnderSome (row.to · z) (from_words q) → IsUnderSome (row.from · z) (from_words rows)

pub record IsFullProduct (shape : Shape) (p q s : List Row) : Type 0 where
  pub product : IsProduct shape p q s
  pub moves : (u w : Word) → Moves s u w ↔ ((v : Word) × Moves p u v × Moves q v w)
  pub ascending : IsAscending (from_words s)

pub record IsRun (p : List Row) (w : Word) (run : List Row) : Type 0 where
  pub before : List Row
  pub behind : List Row
  pub are : p ≡ before ++ (run ++ behind)
  pub under : (x : Row) → Contains run x → IsUnder x.from w
  pub all : (x : Row) → Contains p x → IsUnder x.from w → Contains run x

abbrev pub moved_by : Row → Row → Row
moved_by row other = record { from = row.from; to = other.to · drop (length other.from.letters) row.to.letters }

abbrev pub carried_by : Row → Row → Row
carried_by row other = record { from = row.from · drop (length row.to.letters) other.from.letters; to = other.to }

pub data IsGiven (q : List Row) (row : Row) (block : List Row) : Type 0 where
  whole : (other : Row) → Contains q other → IsUnder row.to other.from → block ≡ moved_by row other ∷ [] → IsGiven q row block
  by_run : (run : List Row) → IsRun q row.to run → ((v : Word) → ¬ Moves q row.to v) → block ≡ map (carried_by row) run → IsGiven q row block

pub record HasGiven (q : List Row) (row : Row) (old new : List Row) : Type 0 where
  pub block : List Row
  pub given : IsGiven q row block
  pub added : new ≡ old ++ block
