-- Sharing of orbits, and ponds (Barker, Duncan and Robertson 2016; the ponds as here are this project's own). X is the
-- quasinormal basis of p.
--
--     ShareOrbit shape p u v k   the k-th power carries u to v
--     IsPond shape p X u k v     u is under X, p carries it to no word under X, and from 1 on the k-th power is the first that
--                                carries it back under X, to v
use Rattle.std.specs.Prelude.{ℕ, ℤ, pos, List}
use Rattle.ht_word.specs.declared.word.Word.{Word}
use Rattle.ht_word.specs.declared.shape.Shape.{Shape}
use Rattle.ht_word.specs.Words.{IsUnderSome}
use Rattle.ht_num.specs.Numbers.{IsLeastPositive}
use Rattle.ht_pair.specs.declared.row.Row.{Row}
use Rattle.ht_pair.specs.Steps.{Carries}
use Rattle.ht_pair.specs.SemiNormal.{CarriesUnder}

abbrev pub ShareOrbit : Shape → List Row → Word → Word → ℤ → Type 0
ShareOrbit shape p u v k = Carries shape p k u v

pub record IsPond (shape : Shape) (p : List Row) (X : List Word) (u : Word) (k : ℕ) (v : Word) : Type 0 where
  pub under : IsUnderSome u X
  pub leaves : ¬ CarriesUnder shape p (pos 1) u X
  pub first : IsLeastPositive (λ j. CarriesUnder shape p (pos j) u X) k
  pub carries : Carries shape p (pos k) u v
  pub returns : IsUnderSome v X
