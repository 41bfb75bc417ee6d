-- The lines of a file at the begin of bytes, in their parts.
use Rattle.std.proofs.Common.{◌≡◌, ◌<◌, ◌^◌, ℕ, List, [], ◌∷◌, ◌++◌, refl, sym, ◌∙◌, arith, append_assoc}
use Rattle.std.specs.Prelude.{codes, decimal}
use Rattle.std.proofs.lemmas.List.{append_cancel_left}
use Rattle.ht_pair.specs.declared.row.Row.{Row}
use Rattle.ht_text.specs.Texts.{IsNum, IsNumUpTo, IsRow, HasRowText, row_text}
use Rattle.ht_text.specs.FileLines.{IsGroupFront, IsCountFront, IsRowFront}
use Rattle.ht_text.proofs.Cuts.{IsFree, same_cut}
use Rattle.ht_text.proofs.Numbers.{digits_free, num_free, same_decimal}
use Rattle.ht_text.proofs.RowTexts.{row_without}

-- the digits of a number of a file, before another byte
pub number_free : (x n : ℕ) → n < 10 ^ 4 → x < 48 → IsFree x (decimal n)
number_free x n small low = num_free x (decimal n) n (record { small = small; is = refl }) (λ r. absurd (omega arith))

-- behind its first word a third line is a number and a line feed
pub count_text : (bytes text : List ℕ) (k : ℕ) (rest : List ℕ) → bytes ≡ codes "rows " ++ text → IsCountFront bytes k rest → text ≡ decimal k ++ 10 ∷ rest
count_text bytes text k rest e h = append_cancel_left (codes "rows ") text (decimal k ++ 10 ∷ rest) (sym e ∙ h.is)

-- the number is what stands before the line feed
pub count_digits : (bytes digits behind : List ℕ) (k : ℕ) (rest : List ℕ) → IsFree 10 digits → bytes ≡ codes "rows " ++ (digits ++ 10 ∷ behind) → IsCountFront bytes k rest → IsNumUpTo 6 digits k
count_digits bytes digits behind k rest free e h =
    let none = digits_free 10 6 (decimal k) k (omega arith) (record { small = h.few; is = refl }) (λ r. absurd (omega arith)) in
    let same = same_cut 10 digits behind (decimal k) rest free none (count_text bytes (digits ++ 10 ∷ behind) k rest e h) in
    record { small = h.few; is = same.0 }

-- digits are one number at most
pub same_count : (digits : List ℕ) (j k : ℕ) → IsNumUpTo 6 digits j → IsNumUpTo 6 digits k → j ≡ k
same_count digits j k g h = same_decimal j k g.small h.small (sym g.is ∙ h.is)

-- behind its first word a second line is a number, a space, a number and a line feed
pub group_text : (bytes text : List ℕ) (n r : ℕ) (rest : List ℕ) → bytes ≡ codes "group " ++ text → IsGroupFront bytes n r rest → text ≡ decimal n ++ 32 ∷ (decimal r ++ 10 ∷ rest)
group_text bytes text n r rest e h =
    append_cancel_left (codes "group ") text (((decimal n ++ 32 ∷ []) ++ decimal r) ++ 10 ∷ rest) (sym e ∙ h.is)
    ∙ append_assoc (decimal n ++ 32 ∷ []) (decimal r) (10 ∷ rest) ∙ append_assoc (decimal n) (32 ∷ []) (decimal r ++ 10 ∷ rest)

-- what stands before the space, and behind it
pub record HasGroupParts (first behind : List ℕ) (n r : ℕ) (rest : List ℕ) : Type 0 where
  pub is_first : IsNum first n
  pub behind_is : behind ≡ decimal r ++ 10 ∷ rest

pub group_parts : (bytes first behind : List ℕ) (n r : ℕ) (rest : List ℕ) → IsFree 32 first → bytes ≡ codes "group " ++ (first ++ 32 ∷ behind) → IsGroupFront bytes n r rest
    → HasGroupParts first behind n r rest
group_parts bytes first behind n r rest free e h =
    let same = same_cut 32 first behind (decimal n) (decimal r ++ 10 ∷ rest) free (number_free 32 n h.n_small (omega arith)) (group_text bytes (first ++ 32 ∷ behind) n r rest e h) in
    record { is_first = record { small = h.n_small; is = same.0 }; behind_is = same.1 }

-- the second number is what stands before the line feed
pub second_number : (bytes second behind : List ℕ) (n r : ℕ) (rest : List ℕ) → IsFree 10 second → second ++ 10 ∷ behind ≡ decimal r ++ 10 ∷ rest → IsGroupFront bytes n r rest → IsNum second r
second_number bytes second behind n r rest free e h =
    record { small = h.r_small; is = (same_cut 10 second behind (decimal r) rest free (number_free 10 r h.r_small (omega arith)) e).0 }

-- the text of a row has no line feed
pub row_one_line : (row : Row) → HasRowText row → IsFree 10 (row_text row)
row_one_line row h =
    row_without 10 row h (record { no_point = λ e. absurd (omega arith); no_mark = λ e. absurd (omega arith); no_digit = λ r. absurd (omega arith) }) (λ e. absurd (omega arith))

-- the row of a line is what stands before the line feed
pub row_before : (line behind : List ℕ) (row : Row) (rest : List ℕ) → IsFree 10 line → IsRowFront (line ++ 10 ∷ behind) row rest → IsRow line row
row_before line behind row rest free h =
    record { has_text = h.has_text; is = (same_cut 10 line behind (row_text row) rest free (row_one_line row h.has_text) h.is).0 }
