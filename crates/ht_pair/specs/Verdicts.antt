-- Whether elements are conjugate, as it is told.
--
--     IsVerdict shape a b verdict    the rows are canonical and a normal conjugator of a into b; or no pair conjugates a into b
use Rattle.std.specs.Prelude.{List}
use Rattle.ht_word.specs.declared.shape.Shape.{Shape}
use Rattle.ht_pair.specs.declared.row.Row.{Row}
use Rattle.ht_pair.specs.declared.verdict.Verdict.{Verdict}
use Rattle.ht_pair.specs.declared.verdict.Verdict.TheVariants.{Conjugate, NotConjugate}
use Rattle.ht_pair.specs.Actions.{IsCanonical}
use Rattle.ht_pair.specs.Conjugacy.{AreConjugate}
use Rattle.ht_pair.specs.NormalConjugators.{IsNormal}

abbrev pub IsVerdict : Shape → List Row → List Row → Verdict → Type 0
IsVerdict shape a b (Conjugate rows) = IsCanonical shape rows × IsNormal shape rows a b
IsVerdict shape a b NotConjugate = ¬ AreConjugate shape a b
