-- The order of an element, as one notion over the enum of orders.
--
--     HasOrder shape p order    the order of p: a number up to 2^127 - 1, infinite, or wide
use Rattle.std.specs.Prelude.{ℕ, List}
use Rattle.ht_word.specs.declared.shape.Shape.{Shape}
use Rattle.ht_num.specs.Numbers.{IsWide}
use Rattle.ht_pair.specs.declared.row.Row.{Row}
use Rattle.ht_pair.specs.Orders.{IsOrder, HasInfiniteOrder}
use Rattle.ht_types.specs.declared.order.Order.{Order}
use Rattle.ht_types.specs.declared.order.Order.TheVariants.{Finite, Infinite, Wide}

abbrev pub HasOrder : Shape → List Row → Order → Type 0
HasOrder shape p (Finite k) = IsOrder shape p k × ¬ IsWide k
HasOrder shape p Infinite = HasInfiniteOrder shape p
HasOrder shape p Wide = (k : ℕ) × IsOrder shape p k × IsWide k
