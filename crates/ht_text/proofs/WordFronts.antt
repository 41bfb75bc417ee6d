-- Texts of words, read from their begin.
use Rattle.std.proofs.Common.{◌≡◌, ◌≢◌, ◌<◌, ◌≤◌, ◌+◌, ◌-◌, ◌^◌, ◌↔◌, ℕ, zero, suc, List, [], ◌∷◌, ◌++◌, length, get_or, refl, sym, ap, ◌∙◌, subst, arith}
use Rattle.std.specs.Prelude.{decimal, map}
use Rattle.std.specs.List.{AllByRecursion}
use Rattle.std.specs.Char.{digit_value}
use Rattle.std.specs.Str.Parse.{AllDigits, digits_value}
use Rattle.std.proofs.lemmas.Fmt.{first_decimal, decimal_digit}
use Rattle.std.proofs.lemmas.List.Elements.{recursion_from_All, All-from_recursion}
use Rattle.ht_word.specs.declared.word.Word.{Word}
use Rattle.ht_text.specs.Texts.{IsNum, HasForm, IsDigitLetter, IsWord, letter_code, letters_text}
use Rattle.ht_text.specs.Fronts.{IsWordText}
use Rattle.ht_text.specs.Places.{AreLetterBytes, EndsWord, EndsRoot, EndsMark, IsRooted}
use Rattle.ht_text.proofs.Numbers.{form_of_num, digits_of_num, num_of_digits}
use Rattle.ht_text.proofs.PlaceLaws.{digit_byte, byte_digit}

-- the digits of letters
letter_bytes : (z : List ℕ) → AllByRecursion IsDigitLetter z → AreLetterBytes (map letter_code z)
letter_bytes [] h = tt
letter_bytes (a ∷ z) h = ((let low : 1 ≤ a = h.0.0 in omega arith, let high : a ≤ 9 = h.0.1 in omega arith), letter_bytes z h.1)

-- the text of letters ends a word
letters_end : (z : List ℕ) → AllByRecursion IsDigitLetter z → EndsWord (letters_text z)
letters_end [] h = tt
letters_end (a ∷ z) h = (refl, letter_bytes (a ∷ z) h)

-- the letters of their digits
record HasLetters (bytes : List ℕ) : Type 0 where
  pub letters : List ℕ
  pub are : AllByRecursion IsDigitLetter letters
  pub is : bytes ≡ map letter_code letters

-- digits of letters stand for letters
letters_of : (bytes : List ℕ) → AreLetterBytes bytes → HasLetters bytes
letters_of [] h = record { letters = []; are = tt; is = refl }
letters_of (b ∷ bytes) h =
    let more = letters_of bytes h.1 in
    let low : 49 ≤ b = h.0.0 in
    let high : b ≤ 57 = h.0.1 in
    let code : b ≡ b - 48 + 48 = omega arith in
    let rest : bytes ≡ map letter_code more.letters = more.is in
    record { letters = (b - 48) ∷ more.letters; are = ((omega arith, omega arith), more.are); is = cc }

-- the letters of what ends a word
record EndsByLetters (tail : List ℕ) : Type 0 where
  pub letters : List ℕ
  pub are : AllByRecursion IsDigitLetter letters
  pub is : tail ≡ letters_text letters

-- letters behind a `.`
by_point : (b c : ℕ) (tail : List ℕ) → b ≡ 46 → (found : HasLetters (c ∷ tail)) → EndsByLetters (b ∷ c ∷ tail)
by_point b c tail point found = named found.letters found.are found.is
  where
    named : (z : List ℕ) → AllByRecursion IsDigitLetter z → c ∷ tail ≡ map letter_code z → EndsByLetters (b ∷ c ∷ tail)
    named [] are e = absurd (cc)
    named (a ∷ z) are e = record { letters = a ∷ z; are = are; is = cc }

-- what ends a word stands for letters
word_end : (tail : List ℕ) → EndsWord tail → EndsByLetters tail
word_end [] h = record { letters = []; are = tt; is = refl }
word_end (b ∷ []) h = absurd h.1
word_end (b ∷ c ∷ tail) h = by_point b c tail h.0 (letters_of (c ∷ tail) h.1)

-- digits of the form of a number, but for 0, are a root
root_of_digits : (digits tail : List ℕ) → HasForm 4 digits → AllDigits 10 digits → get_or digits 0 0 ≢ 48 → EndsWord tail → EndsMark (digits ++ tail)
root_of_digits [] tail form all first ends = let some : 0 < 0 = form.some in absurd (omega arith)
root_of_digits (d ∷ digits) tail form all first ends =
    let range = digit_byte d all.0 in
    let few : length (d ∷ digits) ≤ 4 = form.few in
    ((omega arith, omega arith), record { digits = digits; few = omega arith; are_digits = all.1; tail = tail; ends = ends; is = refl })

-- the text of a root is one
decimal_root : (n : ℕ) (tail : List ℕ) → 1 ≤ n → n < 10 ^ 4 → EndsWord tail → EndsMark (decimal n ++ tail)
decimal_root n tail low high ends =
    let num : IsNum (decimal n) n = record { small = high; is = refl } in
    let above : 48 < get_or (decimal n) 0 0 = first_decimal n (omega arith) (omega arith) in
    root_of_digits (decimal n) tail (form_of_num (decimal n) n num) (digits_of_num (decimal n) n num) (λ e. absurd (omega arith)) ends

-- the text of a word begins with an `x`
pub marked : (bytes : List ℕ) (w : Word) → IsWord bytes w → IsRooted bytes
marked bytes w h =
    subst IsRooted (sym h.is)
    (refl, decimal_root w.root (letters_text w.letters) h.has_text.root_low h.has_text.root_high (letters_end w.letters (recursion_from_All IsDigitLetter w.letters h.has_text.letters)))

-- a number that doesn't begin with 0 isn't 0
positive : (d : ℕ) (digits : List ℕ) (n : ℕ) → IsNum (d ∷ digits) n → 49 ≤ d → 1 ≤ n
positive d digits zero num low = let same : d ∷ digits ≡ 48 ∷ [] = num.is ∙ decimal_digit 0 (omega arith) in let first : d ≡ 48 = cc in absurd (omega arith)
positive d digits (suc n) num low = omega arith

-- digits of a root have the form of a number
digits_form : (d : ℕ) (digits : List ℕ) → 49 ≤ d → length digits ≤ 3 → HasForm 4 (d ∷ digits)
digits_form d digits low few = record { some = omega arith; few = omega arith; first = λ e. absurd (omega arith) }

-- a root and what ends a word stand for a word
word_of : (b d : ℕ) (rest : List ℕ) → b ≡ 120 → 49 ≤ d → d ≤ 57 → EndsRoot 3 rest → IsWordText (b ∷ d ∷ rest)
word_of b d rest mark low high root =
    let digit : digit_value d < 10 = byte_digit d (omega arith) high in
    let num : IsNum (d ∷ root.digits) (digits_value 10 (d ∷ root.digits)) = num_of_digits (d ∷ root.digits) (digits_form d root.digits low root.few) (digit, root.are_digits) in
    let end = word_end root.tail root.ends in (
      record { root = digits_value 10 (d ∷ root.digits); letters = end.letters },
      record {
        has_text = record { root_low = positive d root.digits (digits_value 10 (d ∷ root.digits)) num low; root_high = num.small; letters = All-from_recursion IsDigitLetter end.letters end.are };
        is = ap (λ t. b ∷ d ∷ t) root.is ∙ ap (λ t. t ∷ (d ∷ root.digits) ++ root.tail) mark ∙ ap (λ t. 120 ∷ t ++ root.tail) num.is
            ∙ ap (λ t. 120 ∷ decimal (digits_value 10 (d ∷ root.digits)) ++ t) end.is;
      },
    )

-- `marked`, turned
of_marked : (bytes : List ℕ) → IsRooted bytes → IsWordText bytes
of_marked [] h = absurd h
of_marked (b ∷ []) h = absurd h.1
of_marked (b ∷ d ∷ rest) h = word_of b d rest h.0 h.1.0.0 h.1.0.1 h.1.1

-- a text of a word is an `x`, a root and what ends a word
pub word_marked : (bytes : List ℕ) → IsWordText bytes ↔ IsRooted bytes
word_marked bytes = ((λ h. marked bytes h.0 h.1), of_marked bytes)
