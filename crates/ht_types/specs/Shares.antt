-- Whether words share an orbit, as it is told (Barker, Duncan and Robertson 2016). X is the quasinormal basis of p.
--
--     IsLeastShare shape p u v k      k is the least power from 0 on that carries u to v
--     IsShare shape p X u v share     the power carries u to v, its exponent is below 2^122 in absolute value, and for u under a
--                                     cycle word of X it is the least from 0 on; or no power carries u to v
use Rattle.std.specs.Prelude.{ℕ, ℤ, pos, nat_abs, ◌≡◌, ◌≤◌, ◌<◌, ◌^◌, List, Option, None, Some}
use Rattle.ht_word.specs.declared.word.Word.{Word}
use Rattle.ht_word.specs.declared.shape.Shape.{Shape}
use Rattle.ht_pair.specs.declared.row.Row.{Row}
use Rattle.ht_pair.specs.Orbits.{ShareOrbit}
use Rattle.ht_types.specs.CycleWords.{IsUnderCycle}

pub record IsLeastShare (shape : Shape) (p : List Row) (u v : Word) (k : ℤ) : Type 0 where
  pub steps : ℕ
  pub is : k ≡ pos steps
  pub least : (j : ℕ) → ShareOrbit shape p u v (pos j) → steps ≤ j

abbrev pub IsShare : Shape → List Row → List Word → Word → Word → Option ℤ → Type 0
IsShare shape p X u v (Some k) = ShareOrbit shape p u v k × (nat_abs k < 2 ^ 122) × ((m : ℕ) → IsUnderCycle shape p X u m → IsLeastShare shape p u v k)
IsShare shape p X u v None = (k : ℤ) → ¬ ShareOrbit shape p u v k
