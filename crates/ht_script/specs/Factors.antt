-- Factors of a product: the name of an element, and an exponent.
--
--     IsInteger k digits         the bytes are decimal digits of the number k, at least one, and no 0 before another
--     IsExponent k exponent      the exponent is k, or says that k is past 2^127 - 1 in absolute value
--     IsFactor factor token      the token is the factor: its name, and behind `^` or `^-` digits; without them the exponent is 1
--     IsFactorText token         the token is some factor
--     AreListed factors bytes    the factors, none or more, with spaces before each, and behind the last spaces alone
--     AreFactors factors bytes   the same for at least one factor
--     AreFactorsText bytes       the bytes are some factors
use Rattle.std.specs.Prelude.{◌≡◌, ◌≢◌, ◌<◌, ◌^◌, ℕ, ℤ, pos, neg_ℤ, nat_abs, List, [], ◌∷◌, ◌++◌, length, slice_index, codes}
use Rattle.std.specs.Str.Parse.{IsNumeral, digits_value}
use Rattle.ht_pair.specs.Numbers.{IsWide}
use Rattle.ht_script.specs.declared.factor.Exponent.{Exponent}
use Rattle.ht_script.specs.declared.factor.Exponent.TheVariants.{Fits, Wide}
use Rattle.ht_script.specs.declared.factor.Factor.{Factor}
use Rattle.ht_script.specs.Tokens.{IsSpaces, ◌▸◌}
use Rattle.ht_script.specs.Names.{IsName}

pub record IsInteger (k : ℕ) (digits : List ℕ) : Type 0 where
  pub numeral : IsNumeral 10 digits
  pub no_zero_first : slice_index digits 0 ≡ 48 → length digits ≡ 1
  pub value : digits_value 10 digits ≡ k

abbrev pub IsExponent : ℤ → Exponent → Type 0
IsExponent k (Fits e) = (nat_abs k < 2 ^ 127) × (e ≡ k)
IsExponent k Wide = IsWide (nat_abs k)

pub data IsFactor (factor : Factor) (token : List ℕ) : Type 0 where
  plain : IsName factor.name → token ≡ factor.name → factor.exponent ≡ Fits (pos 1) → IsFactor factor token
  raised : (k : ℕ) (digits : List ℕ) → IsName factor.name → IsInteger k digits → token ≡ factor.name ++ (codes "^" ++ digits) → IsExponent (pos k) factor.exponent → IsFactor factor token
  lowered : (k : ℕ) (digits : List ℕ) → IsName factor.name → IsInteger k digits → token ≡ factor.name ++ (codes "^-" ++ digits) → IsExponent (neg_ℤ (pos k)) factor.exponent → IsFactor factor token

abbrev pub IsFactorText : List ℕ → Type 0
IsFactorText token = (factor : Factor) × IsFactor factor token

abbrev pub AreListed : List Factor → List ℕ → Type 0
AreListed [] bytes = IsSpaces bytes
AreListed (factor ∷ factors) bytes = (IsFactor factor ▸ AreListed factors) bytes

abbrev pub AreFactors : List Factor → List ℕ → Type 0
AreFactors factors bytes = (factors ≢ []) × AreListed factors bytes

abbrev pub AreFactorsText : List ℕ → Type 0
AreFactorsText bytes = (factors : List Factor) × AreFactors factors bytes
