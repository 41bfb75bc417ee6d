-- Words of a basis that an element carries out of it, and the chains that lead to them. After Higman 1974; the names are this project's own.
--
--     Splits shape p X x              p carries x to no word under X
--     IsJoined shape p X x            the turned pair carries x to no word under X
--     LeadsToSplit shape p X k x      p carries x through k further words of X, the last of which splits
--     ComesFromJoined shape p X k x   the turned pair carries x through k further words of X, the last of which is joined
use Rattle.std.specs.Prelude.{ℕ, zero, suc, pos, negsuc, List, Contains}
use Rattle.ht_word.specs.declared.word.Word.{Word}
use Rattle.ht_word.specs.declared.shape.Shape.{Shape}
use Rattle.ht_pair.specs.declared.row.Row.{Row}
use Rattle.ht_pair.specs.SemiNormal.{CarriesUnder}
use Rattle.ht_pair.specs.Steps.{Carries}

unfoldable pub Splits : Shape → List Row → List Word → Word → Type 0
Splits shape p X x = ¬ CarriesUnder shape p (pos 1) x X

unfoldable pub IsJoined : Shape → List Row → List Word → Word → Type 0
IsJoined shape p X x = ¬ CarriesUnder shape p (negsuc 0) x X

unfoldable pub LeadsToSplit : Shape → List Row → List Word → ℕ → Word → Type 0
LeadsToSplit shape p X zero x = Splits shape p X x
LeadsToSplit shape p X (suc k) x = (y : Word) × Contains X y × Carries shape p (pos 1) x y × LeadsToSplit shape p X k y

unfoldable pub ComesFromJoined : Shape → List Row → List Word → ℕ → Word → Type 0
ComesFromJoined shape p X zero x = IsJoined shape p X x
ComesFromJoined shape p X (suc k) x = (y : Word) × Contains X y × Carries shape p (negsuc 0) x y × ComesFromJoined shape p X k y
