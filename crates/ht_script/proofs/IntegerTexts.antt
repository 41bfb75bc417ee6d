-- Texts of integers, and of exponents.
use Rattle.std.proofs.Common.{◌≡◌, ◌≢◌, ◌<◌, ◌≤◌, ◌+◌, ◌^◌, inl, inr, ℕ, zero, suc, List, [], ◌∷◌, ◌++◌, length, take, drop, get_or, All, refl, sym, ap, ◌∙◌, subst, arith, append-nil, length-append, take-append-drop}
use Rattle.std.specs.Prelude.{◌↔◌, IsTrue, nat_eq, ℤ, pos, neg_ℤ, nat_abs, codes}
use Rattle.std.proofs.Math.Seq.{take-length}
use Rattle.std.proofs.lemmas.Bool.Decides.{nat_tests}
use Rattle.std.specs.Int.{IsInRange}
use Rattle.std.specs.Str.Parse.{AllDigits, digits_value}
use Rattle.std.proofs.lemmas.Bool.{cases_lt}
use Rattle.std.proofs.lemmas.Str.Parse.{digit_from_value}
use Rattle.std.proofs.lemmas.List.Elements.{All-nil, All-cons, recursion_from_All}
use Rattle.std.specs.List.{AllByRecursion}
use Rattle.ht_text.specs.Fronts.{IsFront, IsLongestFront}
use Rattle.ht_text.proofs.Cuts.{IsFree}
use Rattle.ht_text.proofs.FrontLaws.{no_longer}
use Rattle.ht_text.proofs.PlaceLaws.{byte_digit}
use Rattle.ht_script.specs.declared.factor.Exponent.{Exponent}
use Rattle.ht_script.specs.declared.factor.Exponent.TheVariants.{Fits, Wide}
use Rattle.ht_script.specs.Tokens.{IsSpan}
use Rattle.ht_script.specs.Factors.{IsInteger, IsExponent}
use Rattle.ht_script.specs.Exponents.{IsIntegerText, IsExponentText, bare, signed, Raises, upwards, downwards}
use Rattle.ht_script.proofs.FrontLaws.{front_map, longest_behind, longest_alike}

digits_left : (a b : List ℕ) → AllDigits 10 (a ++ b) → AllDigits 10 a
digits_left [] b h = tt
digits_left (c ∷ a) b h = (h.0, digits_left a b h.1)

digits_right : (a b : List ℕ) → AllDigits 10 (a ++ b) → AllDigits 10 b
digits_right [] b h = h
digits_right (c ∷ a) b h = digits_right a b h.1

digits_by_range : (t : List ℕ) → AllByRecursion (IsInRange 48 57) t → AllDigits 10 t
digits_by_range [] h = tt
digits_by_range (c ∷ t) h = (byte_digit c (h.0.0) (h.0.1), digits_by_range t h.1)

-- bytes from 0 to 9 are digits
pub digits_from_range : (t : List ℕ) → All (IsInRange 48 57) t → AllDigits 10 t
digits_from_range t h = digits_by_range t (recursion_from_All (IsInRange 48 57) t h)

-- another byte is in no digits
pub digits_free : (x : ℕ) (t : List ℕ) → ¬ IsInRange 48 57 x → AllDigits 10 t → IsFree x t
digits_free x [] out h = All-nil (λ b. b ≢ x)
digits_free x (c ∷ t) out h = All-cons (λ b. b ≢ x) c t (λ e. out (subst (λ b. IsInRange 48 57 b) e (digit_from_value c h.0))) (digits_free x t out h.1)

-- the first bytes of an integer's text are one
pub integer_left : (a b : List ℕ) → 0 < length a → IsIntegerText (a ++ b) → IsIntegerText a
integer_left [] b some h = absurd (omega arith)
integer_left (c ∷ a) b some h = (
  digits_value 10 (c ∷ a),
  record {
    numeral = (omega arith, digits_left (c ∷ a) b h.1.numeral.1);
    no_zero_first = λ e. let one = h.1.no_zero_first e in omega (arith, length-append a b);
    value = refl;
  },
)

pub integer_whole : (t : List ℕ) → 0 < length t → IsFront IsIntegerText t → IsIntegerText t
integer_whole t some f = integer_left t f.rest some f.text

zero_text : IsIntegerText (48 ∷ [])
zero_text = (0, record { numeral = (omega arith, (byte_digit 48 (omega arith) (omega arith), tt)); no_zero_first = λ e. refl; value = refl })

pub no_digits_front : IsFront IsIntegerText []
no_digits_front = record { rest = 48 ∷ []; text = zero_text }

digits_front : (t : List ℕ) → AllDigits 10 t → (0 < length t → get_or t 0 0 ≢ 48) → IsFront IsIntegerText t
digits_front [] all first = no_digits_front
digits_front (c ∷ t) all first = record {
  rest = [];
  text = (
    digits_value 10 ((c ∷ t) ++ []),
    subst (λ u. IsInteger (digits_value 10 u) u) (sym (append-nil (c ∷ t))) (record {
      numeral = (omega arith, all);
      no_zero_first = λ e. absurd (first (omega arith) e);
      value = refl;
    }),
  );
}

-- no integer goes on with another byte than a digit
digits_stop : (t : List ℕ) (b : ℕ) (rest : List ℕ) → ¬ IsInRange 48 57 b → ¬ IsIntegerText (t ++ b ∷ rest)
digits_stop t b rest other h = other (digit_from_value b (digits_right t (b ∷ rest) h.1.numeral.1).0)

first_of_take : (k : ℕ) (t : List ℕ) → 0 < length (take k t) → get_or (take k t) 0 0 ≡ get_or t 0 0
first_of_take zero t some = absurd (omega arith)
first_of_take (suc k) [] some = refl
first_of_take (suc k) (b ∷ t) some = refl

some_of_take : (k : ℕ) (t : List ℕ) → 0 < length (take k t) → 0 < length t
some_of_take zero t some = absurd (omega arith)
some_of_take (suc k) [] some = some
some_of_take (suc k) (b ∷ t) some = omega arith

-- digits without a 0 before them, as many as there are
pub longest_digits : (t : List ℕ) (k : ℕ) → (0 < length t → get_or t 0 0 ≢ 48) → IsSpan (IsInRange 48 57) t k → IsLongestFront IsIntegerText t k
longest_digits t k first h = record {
  within = h.within;
  front = digits_front (take k t) (digits_from_range (take k t) h.passes) (λ some e. first (some_of_take k t some) (sym (first_of_take k t some) ∙ e));
  longest = no_longer IsIntegerText t k (λ l rest. digits_stop (take k t) (get_or t k 0) rest (h.stops l));
}

-- nothing follows a 0
pub longest_zero : (t : List ℕ) → IsLongestFront IsIntegerText (48 ∷ t) 1
longest_zero t = record {
  within = omega arith;
  front = record { rest = []; text = zero_text };
  longest = no_longer IsIntegerText (48 ∷ t) 1 (λ l rest h. let one : length (48 ∷ get_or (48 ∷ t) 1 0 ∷ rest) ≡ 1 = h.1.no_zero_first refl in omega arith);
}

-- no integer begins with `-`
no_minus : (t : List ℕ) → ¬ IsIntegerText (45 ∷ t)
no_minus t h = let range = digit_from_value 45 h.1.numeral.1.0 in omega arith

-- behind a `-`
pub longest_minus : (t digits : List ℕ) (k : ℕ) → t ≡ codes "-" ++ digits → IsLongestFront IsIntegerText digits k → IsLongestFront IsExponentText t (1 + k)
longest_minus t digits k e h =
    subst (λ u. IsLongestFront IsExponentText u (1 + k)) (sym e)
    (longest_behind IsExponentText IsIntegerText (45 ∷ []) digits k
    (λ f. record { rest = f.rest; text = signed (take k digits ++ f.rest) f.text refl })
    (λ i low high f. record { rest = f.rest; text = behind (take i digits ++ f.rest) f.text }) h)
  where
    behind : (u : List ℕ) → IsExponentText (45 ∷ u) → IsIntegerText u
    behind u x = elim x [
      | bare i ↦ absurd (no_minus u i)
      | signed d i same ↦ (let tail : d ≡ u = cc in subst IsIntegerText tail i)
    ]

without_minus : (a b : List ℕ) → ((rest : List ℕ) → a ++ b ≢ codes "-" ++ rest) → IsFront IsExponentText a → IsFront IsIntegerText a
without_minus [] b plain f = no_digits_front
without_minus (c ∷ a) b plain f = elim f.text [
  | bare i ↦ record { rest = f.rest; text = i }
  | signed d i same ↦ (let head : c ≡ 45 = cc in absurd (plain (a ++ b) (ap (λ x. x ∷ (a ++ b)) head)))
]

-- without a `-`
pub longest_plus : (t : List ℕ) (k : ℕ) → ((rest : List ℕ) → t ≢ codes "-" ++ rest) → IsLongestFront IsIntegerText t k → IsLongestFront IsExponentText t k
longest_plus t k plain h =
    longest_alike IsIntegerText IsExponentText t k (λ j l f. front_map IsIntegerText IsExponentText (take j t) (λ u i. bare i) f)
    (λ j l f. without_minus (take j t) (drop j t) (λ rest e. plain rest (sym (take-append-drop j t) ∙ e)) f) h

-- an exponent's text without a `-` is an integer's, and behind a `-` there is one
pub exponent_plus : (t : List ℕ) → ((rest : List ℕ) → t ≢ codes "-" ++ rest) → IsExponentText t → IsIntegerText t
exponent_plus t plain x = elim x [
  | bare i ↦ i
  | signed d i same ↦ absurd (plain d same)
]

pub exponent_minus : (t digits : List ℕ) → t ≡ codes "-" ++ digits → IsExponentText t → IsIntegerText digits
exponent_minus t digits e x = elim x [
  | bare i ↦ absurd (no_minus digits (subst IsIntegerText e i))
  | signed d i same ↦ (let tail : d ≡ digits = cc in subst IsIntegerText tail i)
]

-- each number has an exponent
pub exponent_of : (z : ℤ) → (e : Exponent) × IsExponent z e
exponent_of z = elim (cases_lt (nat_abs z) (2 ^ 127)) [
  | inl small ↦ (Fits z, (small, refl))
  | inr wide ↦ (Wide, wide)
]

-- and only one
pub same_exponent : (z : ℤ) (d e : Exponent) → IsExponent z d → IsExponent z e → d ≡ e
same_exponent z (Fits a) (Fits b) g h = ap Fits (g.1 ∙ sym h.1)
same_exponent z (Fits a) Wide g h = absurd (omega (arith, g.0, h))
same_exponent z Wide (Fits b) g h = absurd (omega (arith, g, h.0))
same_exponent z Wide Wide g h = refl

same_integer : (j k : ℕ) (t : List ℕ) (d e : Exponent) → IsInteger j t → IsInteger k t → IsExponent (pos j) d → IsExponent (pos k) e → d ≡ e
same_integer j k t d e g h p q = let same : j ≡ k = sym g.value ∙ h.value in same_exponent (pos k) d e (subst (λ n. IsExponent (pos n) d) same p) q

same_lowered : (j k : ℕ) (t : List ℕ) (d e : Exponent) → IsInteger j t → IsInteger k t → IsExponent (neg_ℤ (pos j)) d → IsExponent (neg_ℤ (pos k)) e → d ≡ e
same_lowered j k t d e g h p q = let same : j ≡ k = sym g.value ∙ h.value in same_exponent (neg_ℤ (pos k)) d e (subst (λ n. IsExponent (neg_ℤ (pos n)) d) same p) q

-- a text behind `^` has one exponent
pub same_raises : (t : List ℕ) (d e : Exponent) → Raises d t → Raises e t → d ≡ e
same_raises t d e (upwards g) (upwards h) = same_integer g.k h.k t d e g.is_integer h.is_integer g.is_exponent h.is_exponent
same_raises t d e (upwards g) (downwards k digits h same p) = absurd (no_minus digits (subst IsIntegerText same (g.k, g.is_integer)))
same_raises t d e (downwards j digits g same p) (upwards h) = absurd (no_minus digits (subst IsIntegerText same (h.k, h.is_integer)))
same_raises t d e (downwards j c g is_c p) (downwards k b h is_b q) =
    let tails : c ≡ b = cc in same_lowered j k b d e (subst (IsInteger j) tails g) h p q

-- some exponent is raised by each text, and the other way round
pub raised_by : (t : List ℕ) → IsExponentText t → (e : Exponent) × Raises e t
raised_by t (bare i) = let e = exponent_of (pos i.0) in (e.0, upwards (record { k = i.0; is_integer = i.1; is_exponent = e.1 }))
raised_by t (signed digits i is) = let e = exponent_of (neg_ℤ (pos i.0)) in (e.0, downwards i.0 digits i.1 is e.1)

pub raises_text : (e : Exponent) (t : List ℕ) → Raises e t → IsExponentText t
raises_text e t (upwards s) = bare (s.k, s.is_integer)
raises_text e t (downwards k digits i is p) = signed digits (k, i) is

-- no other byte than `-` and digits is in the text of an exponent
pub exponent_free : (x : ℕ) (t : List ℕ) → ¬ IsInRange 48 57 x → 45 ≢ x → IsExponentText t → IsFree x t
exponent_free x t out other (bare i) = digits_free x t out i.1.numeral.1
exponent_free x t out other (signed digits i is) = subst (IsFree x) (sym is) (All-cons (λ b. b ≢ x) 45 digits other (digits_free x digits out i.1.numeral.1))

-- bytes without a 0 before the others don't begin with it
pub not_zero_first : (t : List ℕ) → ((rest : List ℕ) → t ≢ codes "0" ++ rest) → 0 < length t → get_or t 0 0 ≢ 48
not_zero_first [] other some e = absurd (omega arith)
not_zero_first (c ∷ t) other some e = other t (ap (λ b. b ∷ t) e)

-- some bytes are an integer's text where all of them are a front of one
pub integer_test : (t : List ℕ) (k : ℕ) → 0 < length t → IsLongestFront IsIntegerText t k → IsTrue (nat_eq k (length t)) ↔ IsIntegerText t
integer_test t k some h = (
  (λ e. let same : k ≡ length t = grind (arith, nat_tests) in integer_whole t some (subst (λ u. IsFront IsIntegerText u) (take-length t) (subst (λ n. IsFront IsIntegerText (take n t)) same h.front))),
  (λ i. let most : length t ≤ k = h.longest (length t) (omega arith) (record { rest = []; text = subst IsIntegerText (sym (ap (λ u. u ++ []) (take-length t) ∙ append-nil t)) i }) in
      let within = h.within in grind (arith, nat_tests)),
)
