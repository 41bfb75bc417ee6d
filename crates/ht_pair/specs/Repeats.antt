-- Letters again and again.
--
--     repeated s z    the letters z, s times
use Rattle.std.specs.Prelude.{ℕ, zero, suc, List, [], ◌++◌}

unfoldable pub repeated : ℕ → List ℕ → List ℕ
repeated zero z = []
repeated (suc s) z = repeated s z ++ z
