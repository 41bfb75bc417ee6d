-- Texts of numbers.
use Rattle.std.proofs.Common.{◌≡◌, ◌≢◌, ◌<◌, ◌≤◌, ◌-◌, ◌^◌, ◌∙◌, ℕ, zero, suc, List, length, get_or, sym, subst, ap, arith}
use Rattle.std.specs.Prelude.{decimal}
use Rattle.std.specs.Int.{IsInRange}
use Rattle.std.specs.Char.{digit_value}
use Rattle.std.specs.Str.Parse.{digits_value, AllDigits}
use Rattle.std.proofs.Math.Nat.{pow-le-pow_right}
use Rattle.std.proofs.lemmas.Bool.Decides.{nat_tests}
use Rattle.std.proofs.lemmas.Str.Parse.{IsNumeralModel, numerals_by_value, tells_digits, digits_value_short, not_in_digits}
use Rattle.std.proofs.lemmas.Fmt.{decimal_is_IsNumeral, decimal_nonempty, length-decimal-le, first_decimal, decimal_digit, decimal-digits_value, decimal_injective}
use Rattle.std.proofs.lemmas.List.Elements.{All-from_get_or}
use Rattle.ht_text.specs.Texts.{IsNum, IsNumUpTo, HasForm}
use Rattle.ht_text.proofs.Cuts.{IsFree}

-- digits stand for their value
pub own : IsNumeralModel (AllDigits 10) (digits_value 10)
own = numerals_by_value (AllDigits 10) tells_digits

-- numbers of at most six digits are below a million
pub below_million : (most n : ℕ) → most ≤ 6 → n < 10 ^ most → n < 10 ^ 6
below_million most n few small = let up : 10 ^ most ≤ 10 ^ 6 = pow-le-pow_right {n = 10} (omega arith) {i = most} {j = 6} few in omega arith

-- only the text of 0 begins with 0
first_of_decimal : (n : ℕ) → n < 10 ^ 6 → get_or (decimal n) 0 0 ≡ 48 → length (decimal n) ≡ 1
first_of_decimal zero small e = ap length (decimal_digit 0 (omega arith))
first_of_decimal (suc n) small e =
    let above : 48 < get_or (decimal (suc n)) 0 0 = first_decimal (suc n) (omega arith) (omega arith) in absurd (omega arith)

-- the text of a number has the form of one
form_of_decimal : (most n : ℕ) → 1 ≤ most → most ≤ 6 → n < 10 ^ most → HasForm most (decimal n)
form_of_decimal most n some few small =
    let fits = below_million most n few small in
    record {
      some = decimal_nonempty n (omega arith);
      few = length-decimal-le most n some small (omega arith);
      first = first_of_decimal n fits;
    }

-- bytes without the form are no number
pub form_of_digits : (most : ℕ) (bytes : List ℕ) (n : ℕ) → 1 ≤ most → most ≤ 6 → IsNumUpTo most bytes n → HasForm most bytes
form_of_digits most bytes n some few h = subst (HasForm most) (sym h.is) (form_of_decimal most n some few h.small)

-- `form_of_digits`, for four digits
pub form_of_num : (bytes : List ℕ) (n : ℕ) → IsNum bytes n → HasForm 4 bytes
form_of_num bytes n h = form_of_digits 4 bytes n (omega arith) (omega arith) (record { small = h.small; is = h.is })

-- a number has digits alone
pub all_digits : (most : ℕ) (bytes : List ℕ) (n : ℕ) → most ≤ 6 → IsNumUpTo most bytes n → AllDigits 10 bytes
all_digits most bytes n few h =
    let fits = below_million most n few h.small in
    subst (AllDigits 10) (sym h.is) (decimal_is_IsNumeral n (omega arith)).0.1

-- `all_digits`, for four digits
pub digits_of_num : (bytes : List ℕ) (n : ℕ) → IsNum bytes n → AllDigits 10 bytes
digits_of_num bytes n h = all_digits 4 bytes n (omega arith) (record { small = h.small; is = h.is })

-- digits in the form are the number of their value
pub number_of_digits : (most : ℕ) (bytes : List ℕ) → most ≤ 6 → HasForm most bytes → AllDigits 10 bytes → IsNumUpTo most bytes (digits_value 10 bytes)
number_of_digits most bytes few form all =
    let small : digits_value 10 bytes < 10 ^ most = digits_value_short own bytes most all form.few in
    let fits = below_million most (digits_value 10 bytes) few small in
    record { small = small; is = sym (decimal-digits_value own bytes all form.some form.first (omega arith)) }

-- `number_of_digits`, for four digits
pub num_of_digits : (bytes : List ℕ) → HasForm 4 bytes → AllDigits 10 bytes → IsNum bytes (digits_value 10 bytes)
num_of_digits bytes form all = let number = number_of_digits 4 bytes (omega arith) form all in record { small = number.small; is = number.is }

-- the value of a digit, from its code
pub value_of_digit : (c : ℕ) → 48 ≤ c → c ≤ 57 → digit_value c ≡ c - 48
value_of_digit c low high = grind (arith, nat_tests)

-- only digits are in the text of a number
pub digits_free : (x most : ℕ) (bytes : List ℕ) (n : ℕ) → most ≤ 6 → IsNumUpTo most bytes n → ¬ IsInRange 48 57 x → IsFree x bytes
digits_free x most bytes n few h out = All-from_get_or (λ b. b ≢ x) bytes 0 (not_in_digits own bytes x (all_digits most bytes n few h) out)

-- `digits_free`, for four digits
pub num_free : (x : ℕ) (bytes : List ℕ) (n : ℕ) → IsNum bytes n → ¬ IsInRange 48 57 x → IsFree x bytes
num_free x bytes n h out = digits_free x 4 bytes n (omega arith) (record { small = h.small; is = h.is }) out

-- numbers with one text are the same
pub same_decimal : (m n : ℕ) → m < 10 ^ 6 → n < 10 ^ 6 → decimal m ≡ decimal n → m ≡ n
same_decimal m n m_small n_small e = decimal_injective m n (omega arith) (omega arith) e

-- bytes are one number at most
pub same_num : (bytes : List ℕ) (m n : ℕ) → IsNum bytes m → IsNum bytes n → m ≡ n
same_num bytes m n g h =
    let m_small = g.small in
    let n_small = h.small in
    same_decimal m n (omega arith) (omega arith) (sym g.is ∙ h.is)
