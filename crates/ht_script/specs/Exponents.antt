-- Texts of exponents, behind `^`.
--
--     IsIntegerText text       the text is that of some number
--     StandsFor exponent text  the text is that of a number, and the exponent stands for it
--     Raises exponent text     the text is a number or `-` and a number, and the exponent stands for it
--     IsExponentText text      the text is that of some exponent
use Rattle.std.specs.Prelude.{◌≡◌, ℕ, pos, neg_ℤ, List, ◌++◌, codes}
use Rattle.ht_script.specs.declared.factor.Exponent.{Exponent}
use Rattle.ht_script.specs.Factors.{IsInteger, IsExponent}

abbrev pub IsIntegerText : List ℕ → Type 0
IsIntegerText text = (k : ℕ) × IsInteger k text

pub record StandsFor (exponent : Exponent) (text : List ℕ) : Type 0 where
  pub k : ℕ
  pub is_integer : IsInteger k text
  pub is_exponent : IsExponent (pos k) exponent

pub data Raises (exponent : Exponent) (text : List ℕ) : Type 0 where
  upwards : StandsFor exponent text → Raises exponent text
  downwards : (k : ℕ) (digits : List ℕ) → IsInteger k digits → text ≡ codes "-" ++ digits → IsExponent (neg_ℤ (pos k)) exponent → Raises exponent text

pub data IsExponentText (text : List ℕ) : Type 0 where
  bare : IsIntegerText text → IsExponentText text
  signed : (digits : List ℕ) → IsIntegerText digits → text ≡ codes "-" ++ digits → IsExponentText text
