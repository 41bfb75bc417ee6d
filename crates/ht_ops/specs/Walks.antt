-- Steps of an image, one after another.
--
--     IsWalked shape L g n M    M is the value list L followed n times by g: by the n-th power of a pair that g is, and by the -n-th of one whose inverse it is
use Rattle.std.specs.Prelude.{ℕ, pos, neg_ℤ, List}
use Rattle.ht_word.specs.declared.shape.Shape.{Shape}
use Rattle.ht_pair.specs.declared.row.Row.{Row}
use Rattle.ht_pair.specs.Pairs.{IsPair}
use Rattle.ht_pair.specs.Products.{IsPower}
use Rattle.ht_pair.specs.Images.{Entry}
use Rattle.ht_pair.specs.ValueLists.{IsValueList, IsFollowed}

pub record IsWalked (shape : Shape) (L : List Entry) (g : List Row) (n : ℕ) (M : List Entry) : Type 0 where
  pub value : IsValueList shape M
  pub ahead : (p : List Row) → IsPair shape p → IsPower shape p (pos 1) g → IsFollowed shape L p (pos n) M
  pub back : (p : List Row) → IsPair shape p → IsPower shape p (neg_ℤ (pos 1)) g → IsFollowed shape L p (neg_ℤ (pos n)) M
