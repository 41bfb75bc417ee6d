-- Texts of files: no bytes are two files, and the rows of an element have a file.
use Rattle.std.proofs.Common.{◌≡◌, ◌<◌, ◌≤◌, ◌^◌, ◌+◌, ◌⊎◌, inl, inr, ℕ, List, [], ◌∷◌, ◌++◌, length, take, get_or, refl, sym, ap, ◌∙◌, subst, arith, append-nil, append_assoc}
use Rattle.std.specs.Prelude.{codes, decimal, map}
use Rattle.std.proofs.lemmas.List.{append_cancel_right, length-map, flat_map_more, take_more}
use Rattle.std.proofs.lemmas.List.Elements.{All-nil, All-head, All-tail, at_from_Contains}
use Rattle.ht_word.specs.declared.word.Word.{Word}
use Rattle.ht_word.specs.declared.shape.Shape.{Shape}
use Rattle.ht_word.specs.Words.{◌·◌, IsLetter, IsWordOf, root_word}
use Rattle.ht_word.proofs.WordLaws.{ones, length-ones, ones_letters, word_after, length-after}
use Rattle.ht_word.proofs.ListLaws.{last_same}
use Rattle.ht_pair.specs.declared.row.Row.{Row}
use Rattle.ht_pair.specs.Bases.{longest, IsBasis}
use Rattle.ht_pair.specs.Pairs.{from_words}
use Rattle.ht_pair.specs.Actions.{IsCanonical, IsCanonicalFor}
use Rattle.ht_pair.proofs.AlikeLaws.{alike_refl}
use Rattle.ht_pair.proofs.BasisLaws.{basis_holds}
use Rattle.ht_pair.proofs.CanonicalLaws.{canonical_unique}
use Rattle.ht_text.specs.Texts.{HasRowText, HasRowsText, row_text}
use Rattle.ht_text.specs.Files.{row_lines, file_text, IsFile, IsFileOf, ended}
use Rattle.ht_text.specs.FileLines.{head_text, group_line, end_line, file_lines}
use Rattle.ht_text.proofs.CanonicalTexts.{pair_has_texts}
use Rattle.ht_text.proofs.Numbers.{same_decimal}
use Rattle.ht_text.proofs.RowTexts.{same_row}
use Rattle.ht_text.proofs.LineLaws.{item_within, goes_on}
use Rattle.ht_text.proofs.FileFronts.{number_free, group_parts}
use Rattle.ht_text.proofs.FileLaws.{HasFile, has_file, lines_free, text_is_lines}

-- no lines behind a text are no lines
no_lines : (more : List (List ℕ)) → [] ≡ ended more ++ [] → [] ≡ more
no_lines [] e = refl
no_lines (line ∷ more) e =
    absurd (item_within line (ended more ++ []) 10 (sym (append_assoc line (10 ∷ []) (ended more ++ [])) ∙ sym (append_assoc (line ++ 10 ∷ []) (ended more) []) ∙ sym e))

-- files with one text have the same lines
same_lines : (n r m s : ℕ) (p q : List Row) → HasFile n r p → HasFile m s q → file_text n r p ≡ file_text m s q → file_lines n r p ≡ file_lines m s q
same_lines n r m s p q g h e =
    let on = goes_on (file_lines n r p) (file_lines m s q) [] [] (lines_free n r p g) (lines_free m s q h) (inr refl)
    (ap (λ t. t ++ []) (sym (text_is_lines n r p) ∙ e ∙ text_is_lines m s q)) in
    sym (on.is ∙ ap (λ (t : List (List ℕ)). file_lines n r p ++ t) (sym (no_lines on.more on.bytes)) ∙ append-nil (file_lines n r p))

-- `same_numbers`, over the parts
second_line : (n r : ℕ) → group_line n r ++ 10 ∷ [] ≡ codes "group " ++ (decimal n ++ 32 ∷ (decimal r ++ 10 ∷ []))
second_line n r = ap (λ t. codes "group " ++ t) (append_assoc (decimal n ++ 32 ∷ []) (decimal r) (10 ∷ []) ∙ append_assoc (decimal n) (32 ∷ []) (decimal r ++ 10 ∷ []))

-- second lines that are equal have the same numbers
same_numbers : (n r m s : ℕ) → n < 10 ^ 4 → r < 10 ^ 4 → m < 10 ^ 4 → s < 10 ^ 4 → group_line n r ≡ group_line m s → (n ≡ m) × (r ≡ s)
same_numbers n r m s n_small r_small m_small s_small e =
    let parts = group_parts (group_line n r ++ 10 ∷ []) (decimal n) (decimal r ++ 10 ∷ []) m s [] (number_free 32 n n_small (omega arith)) (second_line n r)
    (record { n_small = m_small; r_small = s_small; is = ap (λ t. t ++ 10 ∷ []) e }) in (
      same_decimal n m (omega arith) (omega arith) parts.is_first.is,
      same_decimal r s (omega arith) (omega arith) (append_cancel_right (decimal r) (decimal s) (10 ∷ []) parts.behind_is),
    )

-- rows with the same texts are the same
same_row_texts : (p q : List Row) → HasRowsText p → HasRowsText q → map row_text p ≡ map row_text q → p ≡ q
same_row_texts [] [] g h e = refl
same_row_texts [] (b ∷ q) g h e = absurd (cc)
same_row_texts (a ∷ p) [] g h e = absurd (cc)
same_row_texts (a ∷ p) (b ∷ q) g h e =
    let first : row_text a ≡ row_text b = cc in
    let others : map row_text p ≡ map row_text q = cc in
    let head : a ≡ b = same_row (row_text a) a b (record { has_text = All-head HasRowText a p g; is = refl }) (record { has_text = All-head HasRowText b q h; is = first }) in
    let tail : p ≡ q = same_row_texts p q (All-tail HasRowText a p g) (All-tail HasRowText b q h) others in
    cc

-- files with one text are of the same numbers and rows
same_values : (n r m s : ℕ) (p q : List Row) → HasFile n r p → HasFile m s q → file_text n r p ≡ file_text m s q → (n ≡ m) × (r ≡ s) × (p ≡ q)
same_values n r m s p q g h e =
    let lines = same_lines n r m s p q g h e in
    let second : group_line n r ≡ group_line m s = cc in
    let behind : map row_text p ++ end_line ∷ [] ≡ map row_text q ++ end_line ∷ [] = cc in
    let numbers = same_numbers n r m s g.n_small g.r_small h.n_small h.r_small second in
    (numbers.0, numbers.1, same_row_texts p q g.have_texts h.have_texts (append_cancel_right (map row_text p) (map row_text q) (end_line ∷ []) behind))

-- bytes are no whole file that is another's without the last line feed
not_both : (bytes a b : List ℕ) → bytes ≡ a ++ codes "end\n" → ¬ (bytes ++ 10 ∷ [] ≡ b ++ codes "end\n")
not_both bytes a b e f =
    let bare : bytes ≡ b ++ codes "end" = append_cancel_right bytes (b ++ codes "end") (10 ∷ []) (f ∙ sym (append_assoc b (codes "end") (10 ∷ []))) in
    let last = last_same (a ++ codes "end") (b ++ codes "en") 10 100
    (append_assoc a (codes "end") (10 ∷ []) ∙ sym e ∙ bare ∙ sym (append_assoc b (codes "en") (100 ∷ []))) in
    absurd (omega (arith, last))

-- what stands before the last line of a file
abbrev before_end : ℕ → ℕ → List Row → List ℕ
before_end n r rows = head_text n r (length rows) ++ row_lines rows

-- bytes are one file at most
pub same_file : (bytes : List ℕ) (n r m s : ℕ) (p q : List Row) → IsFile bytes n r p → IsFile bytes m s q → (n ≡ m) × (r ≡ s) × (p ≡ q)
same_file bytes n r m s p q g h = one g.is h.is
  where
    one : (bytes ≡ file_text n r p) ⊎ (bytes ++ codes "\n" ≡ file_text n r p) → (bytes ≡ file_text m s q) ⊎ (bytes ++ codes "\n" ≡ file_text m s q) → (n ≡ m) × (r ≡ s) × (p ≡ q)
    one (inl d) (inl e) = same_values n r m s p q (has_file bytes n r p g) (has_file bytes m s q h) (sym d ∙ e)
    one (inl d) (inr e) = absurd (not_both bytes (before_end n r p) (before_end m s q) d e)
    one (inr d) (inl e) = absurd (not_both bytes (before_end m s q) (before_end n r p) e d)
    one (inr d) (inr e) = same_values n r m s p q (has_file bytes n r p g) (has_file bytes m s q h) (sym d ∙ e)

-- a basis has a word
basis_some : (shape : Shape) (X : List Word) → IsBasis shape X → 1 ≤ length X
basis_some shape X h =
    let letters : List ℕ = ones (longest X) in
    let root : IsWordOf shape (root_word 1) = record { root_low = omega arith; root_high = shape.roots_low; letters = All-nil (IsLetter shape) } in
    let above = basis_holds shape X h (root_word 1 · letters) (word_after shape (root_word 1) letters root (ones_letters shape (longest X))) (omega (arith, length-after (root_word 1) letters, length-ones (longest X))) in
    let place = at_from_Contains X above.above above.listed in
    let within : place.0 < length X = place.1 in
    omega arith

-- the rows of an element have a file
pub element_file : (shape : Shape) (rows : List Row) → IsCanonical shape rows → length rows ≤ 8192 → IsFile (file_text shape.n shape.r rows) shape.n shape.r rows
element_file shape rows h few =
    let some : 1 ≤ length (from_words rows) = basis_some shape (from_words rows) h.pair.from in
    let same : length (from_words rows) ≡ length rows = length-map rows (λ (row : Row). row.from) in
    let n_high = shape.letters_high in
    let r_high = shape.roots_high in
    record { n_small = omega arith; r_small = omega arith; some = omega arith; few = omega arith; have_texts = pair_has_texts shape rows h.pair; is = inl refl }

-- reading it gives the rows
pub element_read : (shape : Shape) (rows given : List Row) (bytes : List ℕ) → IsCanonical shape rows → length rows ≤ 8192 → bytes ≡ file_text shape.n shape.r rows → IsFileOf bytes shape given → given ≡ rows
element_read shape rows given bytes h few e file =
    (same_file bytes shape.n shape.r shape.n shape.r given rows file.1 (subst (λ t. IsFile t shape.n shape.r rows) (sym e) (element_file shape rows h few))).2

-- and their canonical pair
pub element_back : (shape : Shape) (rows given element : List Row) (bytes : List ℕ) → IsCanonical shape rows → length rows ≤ 8192 → bytes ≡ file_text shape.n shape.r rows → IsFileOf bytes shape given
    → IsCanonicalFor shape element given → element ≡ rows
element_back shape rows given element bytes h few e file canonical =
    canonical_unique shape rows element rows h.pair
    (subst (λ (t : List Row). IsCanonicalFor shape element t) (element_read shape rows given bytes h few e file) canonical)
    (record { form = h; alike = alike_refl shape rows h.pair })

-- the first three lines were written, part by part
pub wrote_head : (old a b c d e f new first n second r third k : List ℕ) → a ≡ old ++ first → b ≡ a ++ n → c ≡ b ++ second → d ≡ c ++ r → e ≡ d ++ third → f ≡ e ++ k → new ≡ f ++ 10 ∷ []
    → new ≡ old ++ ((((((first ++ n) ++ second) ++ r) ++ third) ++ k) ++ 10 ∷ [])
wrote_head old a b c d e f new first n second r third k u v w x y z last = rw (last, z, y, x, w, v, u) (simp append_assoc)

-- one more line was written
pub wrote_line : (old out new head : List ℕ) (rows : List Row) (i : ℕ) (row : Row) → i < length rows → row ≡ get_or rows i row → out ≡ head ++ row_lines (take i rows) → new ≡ out ++ (row_text row ++ 10 ∷ [])
    → new ≡ head ++ row_lines (take (i + 1) rows)
wrote_line old out new head rows i row within is wrote added =
    added ∙ ap (λ t. t ++ (row_text row ++ 10 ∷ [])) wrote ∙ flat_map_more (λ (x : Row). row_text x ++ 10 ∷ []) head (take i rows) row
    ∙ ap (λ (t : List Row). head ++ row_lines t) (ap (λ (x : Row). take i rows ++ x ∷ []) is ∙ sym (take_more rows i row within))
