-- Whether elements have conjugate powers, as it is told.
--
--     ConjugatesPowers shape a b i j h   i is above 0, neither power is the identity, and h, in canonical form, conjugates the i-th
--                                        power of a into the j-th of b
--     IsPowerVerdict shape a b verdict   such powers, with h; or no powers that aren't the identity are conjugate
--     rule_answer verdict                the verdict as an answer of the power rule
use Rattle.std.specs.Prelude.{ℤ, pos, ◌<ℤ◌, List}
use Rattle.ht_word.specs.declared.shape.Shape.{Shape}
use Rattle.ht_pair.specs.declared.row.Row.{Row}
use Rattle.ht_pair.specs.declared.verdict.PowerVerdict.{PowerVerdict}
use Rattle.ht_pair.specs.declared.verdict.PowerVerdict.TheVariants as verdict
use Rattle.ht_pair.specs.Pairs.{identity}
use Rattle.ht_pair.specs.Actions.{Alike, IsCanonical}
use Rattle.ht_pair.specs.Conjugacy.{ArePowerConjugate, Conjugates}
use Rattle.ht_pair.specs.PowerTrials.{PowerAnswer, Powers, NoPowers}
use Rattle.ht_pair.specs.Products.{IsPower}

pub record ConjugatesPowers (shape : Shape) (a b : List Row) (i j : ℤ) (h : List Row) : Type 0 where
  pub above : pos 0 <ℤ i
  pub first : List Row
  pub second : List Row
  pub first_power : IsPower shape a i first
  pub second_power : IsPower shape b j second
  pub first_moves : ¬ Alike shape first (identity shape)
  pub second_moves : ¬ Alike shape second (identity shape)
  pub canonical : IsCanonical shape h
  pub conjugates : Conjugates shape h first second

abbrev pub IsPowerVerdict : Shape → List Row → List Row → PowerVerdict → Type 0
IsPowerVerdict shape a b (verdict.Powers i j by) = ConjugatesPowers shape a b i j by
IsPowerVerdict shape a b verdict.None = (i j : ℤ) → ¬ ArePowerConjugate shape a b i j

abbrev pub rule_answer : PowerVerdict → PowerAnswer
rule_answer (verdict.Powers i j by) = Powers i j by
rule_answer verdict.None = NoPowers
