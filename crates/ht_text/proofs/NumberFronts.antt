-- The longest fronts of texts of numbers.
use Rattle.std.proofs.Common.{◌≡◌, ◌≢◌, ◌<◌, ◌≤◌, ◌⊎◌, inl, inr, ℕ, List, [], ◌∷◌, ◌++◌, length, take, get_or, refl, sym, ap, ◌∙◌, subst, arith, append-nil, length-append}
use Rattle.std.specs.Prelude.{decimal}
use Rattle.std.specs.Int.{IsInRange}
use Rattle.std.specs.Str.Parse.{AllDigits, digits_value}
use Rattle.std.proofs.lemmas.Fmt.{decimal_digit}
use Rattle.std.proofs.lemmas.List.{get_or-take, length-take-le, get_or_at}
use Rattle.std.proofs.lemmas.Str.Parse.{digit_at}
use Rattle.ht_text.specs.Texts.{IsNum, HasForm}
use Rattle.ht_text.specs.Fronts.{IsNumText, IsFront, IsLongestFront}
use Rattle.ht_text.proofs.Numbers.{form_of_num, digits_of_num, num_of_digits}
use Rattle.ht_text.proofs.FrontLaws.{no_longer}

-- digits without a 0 before them are a front
digits_front : (digits : List ℕ) → length digits ≤ 4 → (0 < length digits → get_or digits 0 0 ≢ 48) → AllDigits 10 digits → IsFront IsNumText digits
digits_front [] few first all = record { rest = decimal 0; text = (0, record { small = omega arith; is = refl }) }
digits_front (d ∷ digits) few first all =
    let form : HasForm 4 (d ∷ digits) = record { some = omega arith; few = few; first = λ e. absurd (first (omega arith) e) } in
    record {
      rest = [];
      text = (digits_value 10 (d ∷ digits), subst (λ t. IsNum t (digits_value 10 (d ∷ digits))) (sym (append-nil (d ∷ digits))) (num_of_digits (d ∷ digits) form all));
    }

-- no number goes on behind four digits, nor with another byte than a digit
num_stop : (digits : List ℕ) (b : ℕ) (rest : List ℕ) → (length digits ≡ 4) ⊎ ¬ IsInRange 48 57 b → ¬ IsNumText (digits ++ b ∷ rest)
num_stop digits b rest (inl whole) h =
    let few : length (digits ++ b ∷ rest) ≤ 4 = (form_of_num (digits ++ b ∷ rest) h.0 h.1).few in
    omega (arith, length-append digits (b ∷ rest))
num_stop digits b rest (inr other) h =
    let within : length digits < length (digits ++ b ∷ rest) = omega (arith, length-append digits (b ∷ rest)) in
    other (subst (λ c. IsInRange 48 57 c) (get_or_at digits b rest 0 (length digits) refl) (digit_at (digits ++ b ∷ rest) (length digits) (digits_of_num (digits ++ b ∷ rest) h.0 h.1) within))

-- the longest front of a number that doesn't begin with 0
pub num_longest : (bytes : List ℕ) (i : ℕ) → i ≤ length bytes → i ≤ 4 → ¬ ((0 < length bytes) × (get_or bytes 0 0 ≡ 48)) → AllDigits 10 (take i bytes)
    → (i < length bytes → (i ≡ 4) ⊎ ¬ IsInRange 48 57 (get_or bytes i 0)) → IsLongestFront IsNumText bytes i
num_longest bytes i within few first all stop =
    let len : length (take i bytes) ≡ i = length-take-le i bytes within in
    record {
      within = within;
      front = digits_front (take i bytes) (omega arith)
          (λ some zero. let low : 0 < i = omega arith in first (omega arith, sym (get_or-take i bytes 0 0 low) ∙ zero)) all;
      longest = no_longer IsNumText bytes i (λ l rest. elim (stop l) [
        | inl whole ↦ num_stop (take i bytes) (get_or bytes i 0) rest (inl (len ∙ whole))
        | inr other ↦ num_stop (take i bytes) (get_or bytes i 0) rest (inr other)
      ]);
    }

-- a number that begins with 0 is 0
pub zero_longest : (bytes : List ℕ) → 0 < length bytes → get_or bytes 0 0 ≡ 48 → IsLongestFront IsNumText bytes 1
zero_longest [] some first = absurd (omega arith)
zero_longest (b ∷ bytes) some first = record {
  within = omega arith;
  front = record { rest = []; text = (0, record { small = omega arith; is = ap (λ t. t ∷ []) first ∙ sym (decimal_digit 0 (omega arith)) }) };
  longest = no_longer IsNumText (b ∷ bytes) 1 (λ l rest h.
      let one : length (b ∷ get_or (b ∷ bytes) 1 0 ∷ rest) ≡ 1 = (form_of_num (b ∷ get_or (b ∷ bytes) 1 0 ∷ rest) h.0 h.1).first first in omega arith);
}
