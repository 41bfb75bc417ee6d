-- Texts of words, in their parts.
use Rattle.std.proofs.Common.{◌≡◌, ◌≢◌, ◌<◌, ◌≤◌, ℕ, ◌+◌, ◌⊎◌, inl, inr, List, [], ◌∷◌, ◌++◌, get_or, length, refl, sym, ap, ◌∙◌, subst, arith, append-nil, take, drop}
use Rattle.std.specs.Prelude.{All, decimal, map}
use Rattle.std.specs.Int.{IsInRange}
use Rattle.std.proofs.lemmas.List.{get_or-map, length-map, map-append, take-append-drop}
use Rattle.std.proofs.lemmas.List.Elements.{All-nil, All-map, All-tail}
use Rattle.ht_word.specs.declared.word.Word.{Word}
use Rattle.ht_word.proofs.WordLaws.{word_eq}
use Rattle.ht_text.specs.Texts.{IsNum, IsRoot, AreLetters, IsDigitLetter, HasText, IsWord, letter_code, letters_text, word_text}
use Rattle.ht_text.specs.Writes.{AddsFront}
use Rattle.ht_text.proofs.Numbers.{num_free, same_num}
use Rattle.ht_text.proofs.Cuts.{IsFree, free_one, free_append, same_cut, not_cut}

-- a byte that no text of a word has
pub record IsNoWordByte (x : ℕ) : Type 0 where
  pub no_point : 46 ≢ x
  pub no_mark : 120 ≢ x
  pub no_digit : ¬ IsInRange 48 57 x

-- it isn't in the text of letters
letters_free : (x : ℕ) (z : List ℕ) → All IsDigitLetter z → IsNoWordByte x → IsFree x (letters_text z)
letters_free x [] h out = All-nil (λ b. b ≢ x)
letters_free x (a ∷ z) h out =
    free_append x (46 ∷ []) (map letter_code (a ∷ z)) (free_one x 46 out.no_point)
    (All-map (λ b. b ≢ x) letter_code (a ∷ z) (λ k d l e. let digit = h k d l in out.no_digit (omega arith, omega arith)))

-- nor in the text of a word
pub word_without : (x : ℕ) (w : Word) → HasText w → IsNoWordByte x → IsFree x (word_text w)
word_without x w h out =
    free_append x (120 ∷ decimal w.root) (letters_text w.letters)
    (free_append x (120 ∷ []) (decimal w.root) (free_one x 120 out.no_mark) (num_free x (decimal w.root) w.root (record { small = h.root_high; is = refl }) out.no_digit))
    (letters_free x w.letters h.letters out)

-- bytes between the digits and the mark are such bytes
pub word_free : (x : ℕ) (w : Word) → HasText w → 57 < x → x < 120 → IsFree x (word_text w)
word_free x w h high low = word_without x w h (record {
  no_point = λ e. absurd (omega arith);
  no_mark = λ e. absurd (omega arith);
  no_digit = λ r. absurd (omega arith);
})

-- each byte of letters is from 49 to 57
pub letter_at : (bytes z : List ℕ) (i : ℕ) → AreLetters bytes z → i < length bytes → (49 ≤ get_or bytes i 0) × (get_or bytes i 0 ≤ 57)
letter_at bytes z i h within =
    let inside : i < length z = subst (λ n. i < n) (ap (λ (t : List ℕ). length t) h.is ∙ length-map z letter_code) within in
    let is : get_or bytes i 0 ≡ get_or z i 0 + 48 = ap (λ t. get_or t i 0) h.is ∙ get_or-map letter_code z i 0 0 inside in
    let digit = h.letters i 0 inside in
    let low : 1 ≤ get_or z i 0 = digit.0 in
    let high : get_or z i 0 ≤ 9 = digit.1 in
    (omega arith, omega arith)

-- a word without letters
pub record IsBare (text : List ℕ) (w : Word) : Type 0 where
  pub is_root : IsRoot text w.root
  pub none : w.letters ≡ []

-- a word with letters
pub record IsLettered (text : List ℕ) (w : Word) : Type 0 where
  pub front : List ℕ
  pub digits : List ℕ
  pub is_root : IsRoot front w.root
  pub are_letters : AreLetters digits w.letters
  pub is : text ≡ front ++ 46 ∷ digits

-- `word_parts` of a word that is given by its root and letters
by_letters : (text : List ℕ) (root : ℕ) (letters : List ℕ) → IsWord (120 ∷ text) (record { root = root; letters = letters })
    → IsBare text (record { root = root; letters = letters }) ⊎ IsLettered text (record { root = root; letters = letters })
by_letters text root [] h =
    let e : text ≡ decimal root ++ [] = let whole = h.is in cc in
    inl (record {
      is_root = record { low = h.has_text.root_low; is_num = record { small = h.has_text.root_high; is = e ∙ append-nil (decimal root) } };
      none = refl;
    })
by_letters text root (a ∷ z) h =
    let e : text ≡ decimal root ++ 46 ∷ map letter_code (a ∷ z) = let whole = h.is in cc in
    inr (record {
      front = decimal root;
      digits = map letter_code (a ∷ z);
      is_root = record { low = h.has_text.root_low; is_num = record { small = h.has_text.root_high; is = refl } };
      are_letters = record { some = λ none. cc; letters = h.has_text.letters; is = refl };
      is = e;
    })

-- behind the `x` a word is a root, or a root, a `.` and letters
word_parts : (text : List ℕ) (w : Word) → IsWord (120 ∷ text) w → IsBare text w ⊎ IsLettered text w
word_parts text w h = by_letters text w.root w.letters h

-- without a `.` it is a root
pub bare_root : (text : List ℕ) (w : Word) → IsFree 46 text → IsWord (120 ∷ text) w → IsRoot text w.root
bare_root text w free h = elim (word_parts text w h) [
  | inl bare ↦ bare.is_root
  | inr lettered ↦ absurd (not_cut 46 text lettered.front lettered.digits free lettered.is)
]

-- a root has no `.`
root_free : (bytes : List ℕ) (n : ℕ) → IsRoot bytes n → IsFree 46 bytes
root_free bytes n h = num_free 46 bytes n h.is_num (λ r. absurd (omega arith))

-- round the first `.` are the root and the letters
pub lettered_parts : (front digits : List ℕ) (w : Word) → IsFree 46 front → IsWord (120 ∷ front ++ 46 ∷ digits) w → IsRoot front w.root × AreLetters digits w.letters
lettered_parts front digits w free h = elim (word_parts (front ++ 46 ∷ digits) w h) [
  | inl bare ↦ absurd (not_cut 46 (front ++ 46 ∷ digits) front digits (root_free (front ++ 46 ∷ digits) w.root bare.is_root) refl)
  | inr lettered ↦
      let same = same_cut 46 front digits lettered.front lettered.digits free (root_free lettered.front w.root lettered.is_root) lettered.is in
      (subst (λ t. IsRoot t w.root) (sym same.0) lettered.is_root, subst (λ t. AreLetters t w.letters) (sym same.1) lettered.are_letters)
]

-- some letters and not the others were written
pub adds_letters : (old new z : List ℕ) (i : ℕ) → new ≡ old ++ map letter_code (take i z) → AddsFront old new (map letter_code z)
adds_letters old new z i wrote = record {
  front = map letter_code (take i z);
  rest = map letter_code (drop i z);
  text_is = ap (λ t. map letter_code t) (sym (take-append-drop i z)) ∙ map-append letter_code (take i z) (drop i z);
  new_is = wrote;
}

-- where there are letters, their text begins with the `.`
dotted_text : (z : List ℕ) → 0 < length z → letters_text z ≡ 46 ∷ map letter_code z
dotted_text [] some = absurd (omega arith)
dotted_text (a ∷ z) some = refl

-- the text of letters in two parts
pub parts_text : (y z : List ℕ) → 0 < length (y ++ z) → letters_text (y ++ z) ≡ (46 ∷ map letter_code y) ++ map letter_code z
parts_text y z some = dotted_text (y ++ z) some ∙ ap (λ t. 46 ∷ t) (map-append letter_code y z)

-- the letters of the second part
pub second_part : (y z : List ℕ) → All IsDigitLetter (y ++ z) → All IsDigitLetter z
second_part [] z h = h
second_part (a ∷ y) z h = second_part y z (All-tail IsDigitLetter a (y ++ z) h)

-- the digits of letters tell the letters
same_letters : (y z : List ℕ) → map letter_code y ≡ map letter_code z → y ≡ z
same_letters [] [] e = refl
same_letters [] (b ∷ z) e = absurd (cc)
same_letters (a ∷ y) [] e = absurd (cc)
same_letters (a ∷ y) (b ∷ z) e =
    let codes : a + 48 ≡ b + 48 = cc in
    let tails : map letter_code y ≡ map letter_code z = cc in
    let head : a ≡ b = omega arith in
    let rest = same_letters y z tails in
    cc

-- `same_word`, over the parts
same_parts : (text : List ℕ) (u v : Word) → IsBare text u ⊎ IsLettered text u → IsBare text v ⊎ IsLettered text v → u ≡ v
same_parts text u v (inl g) (inl h) = word_eq (same_num text u.root v.root g.is_root.is_num h.is_root.is_num) (g.none ∙ sym h.none)
same_parts text u v (inl g) (inr h) = absurd (not_cut 46 text h.front h.digits (root_free text u.root g.is_root) h.is)
same_parts text u v (inr g) (inl h) = absurd (not_cut 46 text g.front g.digits (root_free text v.root h.is_root) g.is)
same_parts text u v (inr g) (inr h) =
    let same = same_cut 46 g.front g.digits h.front h.digits (root_free g.front u.root g.is_root) (root_free h.front v.root h.is_root) (sym g.is ∙ h.is) in
    word_eq (same_num h.front u.root v.root (subst (λ t. IsNum t u.root) same.0 g.is_root.is_num) h.is_root.is_num)
    (same_letters u.letters v.letters (sym g.are_letters.is ∙ same.1 ∙ h.are_letters.is))

-- bytes are one word at most
pub same_word : (bytes : List ℕ) (u v : Word) → IsWord bytes u → IsWord bytes v → u ≡ v
same_word bytes u v g h =
    let text : List ℕ = decimal u.root ++ letters_text u.letters in
    same_parts text u v (word_parts text u (record { has_text = g.has_text; is = refl })) (word_parts text v (record { has_text = h.has_text; is = sym g.is ∙ h.is }))
