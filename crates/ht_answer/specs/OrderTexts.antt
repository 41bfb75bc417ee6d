-- The texts of the answers to `order` and `profile`.
--
--     HasOrderText order          the order isn't wide
--     order_line order            the order's line, with the line feed; nothing for a wide one
--     cycles_text entry           a length of cycles, `:` and their number
--     spaced_cycles_text entry    a space and the same
--     profile_text profile        the entries, with a space between any two; `none` for no entry
use Rattle.std.specs.Prelude.{ℕ, List, [], ◌∷◌, ◌++◌, codes, decimal}
use Rattle.std.specs.List.{flat_map}
use Rattle.ht_types.specs.declared.order.Order.{Order}
use Rattle.ht_types.specs.declared.order.Order.TheVariants.{Finite, Infinite, Wide}

abbrev pub HasOrderText : Order → Type 0
HasOrderText (Finite k) = Unit {0}
HasOrderText Infinite = Unit {0}
HasOrderText Wide = ⊥

abbrev pub order_line : Order → List ℕ
order_line (Finite k) = codes "order " ++ decimal k ++ codes "\n"
order_line Infinite = codes "order infinite\n"
order_line Wide = []

abbrev pub cycles_text : (ℕ × ℕ) → List ℕ
cycles_text entry = decimal entry.0 ++ codes ":" ++ decimal entry.1

abbrev pub spaced_cycles_text : (ℕ × ℕ) → List ℕ
spaced_cycles_text entry = codes " " ++ cycles_text entry

abbrev pub profile_text : List (ℕ × ℕ) → List ℕ
profile_text [] = codes "none"
profile_text (entry ∷ entries) = cycles_text entry ++ flat_map spaced_cycles_text entries
