-- The tokens of the grammar are tokens: some bytes and no space.
use Rattle.std.proofs.Common.{◌≡◌, ◌≢◌, ◌<◌, ℕ, List, [], ◌∷◌, ◌++◌, length, All, refl, sym, ◌∙◌, subst, arith, get_or}
use Rattle.std.specs.Prelude.{codes, decimal, map}
use Rattle.std.specs.List.{AllByRecursion}
use Rattle.std.proofs.lemmas.List.Elements.{All-cons, All-nil, All-map, recursion_from_All}
use Rattle.ht_word.specs.declared.word.Word.{Word}
use Rattle.ht_pair.specs.declared.row.Row.{Row}
use Rattle.ht_text.specs.Texts.{IsNum, IsWord, IsRows, HasText, HasRowText, IsDigitLetter, letter_code, letters_text, word_text, row_text, rows_text}
use Rattle.ht_text.proofs.Cuts.{IsFree, free_one, free_append}
use Rattle.ht_text.proofs.Numbers.{form_of_num, num_free}
use Rattle.ht_script.specs.Tokens.{Is, IsToken}
use Rattle.ht_script.specs.Names.{IsName, IsNameByte, IsFileName, IsFileStart, IsFileByte}

pub number_token : (t : List ℕ) (n : ℕ) → IsNum t n → IsToken t
number_token t n h = record { some = (form_of_num t n h).some; no_space = num_free 32 t n h (λ r. absurd (omega arith)) }

name_byte : (b : ℕ) → IsNameByte b → b ≢ 32
name_byte b h = λ e. grind arith

name_byte_raised : (b : ℕ) → IsNameByte b → b ≢ 94
name_byte_raised b h = λ e. grind arith

-- no name has a `^`
pub name_free : (t : List ℕ) → IsName t → IsFree 94 t
name_free t h =
    subst (IsFree 94) (sym h.is)
    (All-cons (λ b. b ≢ 94) h.first h.others (λ e. let high = h.is_start.1 in let low = h.is_start.0 in omega arith) (λ k d l. name_byte_raised (get_or h.others k d) (h.are_bytes k d l)))

pub name_token : (t : List ℕ) → IsName t → IsToken t
name_token t h = subst IsToken (sym h.is) (record {
  some = omega arith;
  no_space = All-cons (λ b. b ≢ 32) h.first h.others (λ e. let low = h.is_start.0 in omega arith) (λ k d l. name_byte (get_or h.others k d) (h.are_bytes k d l));
})

letters_no_space : (z : List ℕ) → All IsDigitLetter z → IsFree 32 (letters_text z)
letters_no_space [] h = All-nil (λ b. b ≢ 32)
letters_no_space (a ∷ z) h =
    free_append 32 (46 ∷ []) (map letter_code (a ∷ z)) (free_one 32 46 (λ e. absurd (omega arith)))
    (All-map (λ b. b ≢ 32) letter_code (a ∷ z) (λ k d l e. absurd (omega arith)))

word_no_space : (w : Word) → HasText w → IsFree 32 (word_text w)
word_no_space w h =
    free_append 32 (120 ∷ decimal w.root) (letters_text w.letters)
    (free_append 32 (120 ∷ []) (decimal w.root) (free_one 32 120 (λ e. absurd (omega arith))) (num_free 32 (decimal w.root) w.root (record { small = h.root_high; is = refl }) (λ r. absurd (omega arith))))
    (letters_no_space w.letters h.letters)

row_no_space : (row : Row) → HasRowText row → IsFree 32 (row_text row)
row_no_space row h =
    free_append 32 (word_text row.from ++ 62 ∷ []) (word_text row.to)
    (free_append 32 (word_text row.from) (62 ∷ []) (word_no_space row.from h.from) (free_one 32 62 (λ e. absurd (omega arith))))
    (word_no_space row.to h.to)

rows_no_space : (rows : List Row) → AllByRecursion HasRowText rows → IsFree 32 (rows_text rows)
rows_no_space [] h = All-nil (λ b. b ≢ 32)
rows_no_space (row ∷ []) h = row_no_space row h.0
rows_no_space (row ∷ next ∷ rows) h =
    free_append 32 (row_text row ++ 59 ∷ []) (rows_text (next ∷ rows))
    (free_append 32 (row_text row) (59 ∷ []) (row_no_space row h.0) (free_one 32 59 (λ e. absurd (omega arith))))
    (rows_no_space (next ∷ rows) h.1)

some_bytes : (rows : List Row) → rows ≢ [] → 0 < length (rows_text rows)
some_bytes [] some = absurd (some refl)
some_bytes (row ∷ []) some = omega arith
some_bytes (row ∷ next ∷ rows) some = omega arith

pub rows_token : (t : List ℕ) (rows : List Row) → IsRows t rows → IsToken t
rows_token t rows h = subst IsToken (sym h.is) (record {
  some = some_bytes rows h.some;
  no_space = rows_no_space rows (recursion_from_All HasRowText rows h.have_texts);
})

rows_begin : (rows : List Row) → rows ≢ [] → (rest : List ℕ) × (rows_text rows ≡ 120 ∷ rest)
rows_begin [] some = absurd (some refl)
rows_begin (row ∷ []) some = (_, refl)
rows_begin (row ∷ next ∷ rows) some = (_, refl)

-- rows begin with `x`
pub rows_first : (t : List ℕ) (rows : List Row) → IsRows t rows → (rest : List ℕ) × (t ≡ 120 ∷ rest)
rows_first t rows h = let first = rows_begin rows h.some in (first.0, h.is ∙ first.1)

pub word_token : (t : List ℕ) (w : Word) → IsWord t w → IsToken t
word_token t w h = subst IsToken (sym h.is) (record { some = omega arith; no_space = word_no_space w h.has_text })

file_byte : (b : ℕ) → IsFileByte b → b ≢ 32
file_byte b h = λ e. grind arith

file_start : (b : ℕ) → IsFileStart b → b ≢ 32
file_start b h = λ e. grind arith

pub file_token : (t : List ℕ) → IsFileName t → IsToken t
file_token t h = subst IsToken (sym h.is) (record {
  some = omega arith;
  no_space = All-cons (λ b. b ≢ 32) h.first h.others (file_start h.first h.is_start) (λ k d l. file_byte (get_or h.others k d) (h.are_bytes k d l));
})

pub equals_token : (t : List ℕ) → Is (codes "=") t → IsToken t
equals_token t e = subst IsToken (sym e) (record { some = omega arith; no_space = free_one 32 61 (λ r. absurd (omega arith)) })
