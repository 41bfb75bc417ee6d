-- A list in a random order. This project's own.
--
--     places_to n           the places 0 to n - 1, in order
--     shuffled i s list    for each place from i down to 1 an entry up to it is drawn, and the two are exchanged
use Rattle.std.specs.Prelude.{ℕ, zero, suc, ◌+◌, List}
use Rattle.std.specs.List.{swap, range_with_len}
use Rattle.ht_sample.specs.Draws.{next_state, drawn}

unfoldable pub places_to : ℕ → List ℕ
places_to n = range_with_len 0 n

unfoldable pub shuffled : ℕ → ℕ → List ℕ → List ℕ
shuffled zero s list = list
shuffled (suc i) s list = shuffled i (next_state s) (swap list (suc i) (drawn s (suc i + 1)))
