use Rattle.std.proofs.Common.{List, Result, Ok, Err, IfOk, IsPermutation, IsSorted}
use Rattle.ht_word.specs.declared.shape.Shape.{Shape}
use Rattle.ht_pair.specs.declared.row.Row.{Row}
use Rattle.ht_pair.specs.declared.side.Side.TheVariants.{From}
use Rattle.ht_pair.specs.Pairs.{IsPair}
use Rattle.ht_pair.specs.Sides.{word_on, IsSortedPair}
use Rattle.ht_pair.specs.SortedItems.{head_cmp}
use Rattle.ht_pair.proofs.Sorting.{sorted_pair_is}
use Rattle.ht_pair.proofs.pair.sort_pair.Goals as goal

-- what is sorted is the pair in order
in_order : {E : Type 0} (shape : Shape) (rows : List Row) (made : Result (List Row) E) → IsPair shape rows → IfOk made (λ sorted. IsPermutation rows sorted) → IfOk made (IsSorted (head_cmp (word_on From))) → IfOk made (IsSortedPair shape rows)
in_order shape rows (Ok sorted) pair permuted order = sorted_pair_is shape rows sorted pair permuted order
in_order shape rows (Err e) pair permuted order = tt

pub returns : goal.returns
returns c = in_order c.args.shape c.args.rows c.sort.result c.requires c.sort.ensures.permutation c.sort.ensures.sorted
