-- The rows of a line are never large: their text has too few bytes.
use Rattle.std.proofs.Common.{◌≡◌, ◌≢◌, ℕ, suc, ◌≤◌, ◌+◌, ◌*◌, inl, inr, List, [], ◌∷◌, ◌++◌, length, ap, subst, arith}
use Rattle.std.specs.Prelude.{codes, decimal}
use Rattle.std.proofs.lemmas.Fmt.{decimal_nonempty}
use Rattle.std.proofs.lemmas.List.{length-append, length-map}
use Rattle.std.proofs.lemmas.List.Elements.{All-head, All-tail}
use Rattle.std.proofs.lemmas.List.Sums.{sum_by-cons}
use Rattle.ht_word.specs.declared.word.Word.{Word}
use Rattle.ht_word.specs.declared.shape.Shape.{Shape}
use Rattle.ht_pair.specs.declared.row.Row.{Row}
use Rattle.ht_pair.specs.Pairs.{IsPair, from_words, to_words, longest_of}
use Rattle.ht_pair.specs.Sizes.{IsLarge}
use Rattle.ht_pair.specs.RowsFaults.{IsRowsFault}
use Rattle.ht_pair.specs.declared.fault.RowsFault.{RowsFault}
use Rattle.ht_pair.specs.declared.fault.RowsFault.TheVariants.{Foreign, FromNotBasis, ToNotBasis, Large, NoMemory}
use Rattle.ht_pair.proofs.BasisSizes.{root_once, count_roots, few_roots, all_letters, short_words}
use Rattle.ht_pair.proofs.SizeLaws.{canonical_small}
use Rattle.ht_text.specs.Texts.{HasText, HasRowText, HasRowsText, letter_code, letters_text, word_text, row_text, ended_text, rows_text}
use Rattle.ht_script.specs.declared.line.Line.{Line}
use Rattle.ht_script.specs.declared.line.Line.TheVariants.{Blank, Group, Reduce, LetRows, LetProduct, Show, Equal, Image, Load, Basis, Order, Types, Profile, Parts, Conj, Ponds, Share, Power}
use Rattle.ht_script.specs.Tokens.{IsSpaces, Is, IsSpaced, ◌▸◌}
use Rattle.ht_script.specs.Lines.{AreRows, IsNamed, IsLine}
use Rattle.ht_script.specs.Names.{IsFileName}
use Rattle.ht_calc.specs.ShortLines.{HasShortRows, NamesFile}
use Rattle.ht_text.proofs.CanonicalTexts.{pair_has_texts}

-- the text has a byte for each letter, and two where there are letters
record IsLong (z text : List ℕ) (least : ℕ) : Type 0 where
  letters : length z ≤ length text
  bytes : least ≤ length text + 2 * root_once z

letters_long : (z : List ℕ) → IsLong z (letters_text z) 2
letters_long [] = record { letters = omega arith; bytes = omega arith }
letters_long (a ∷ z) = record { letters = omega (arith, length-map z letter_code); bytes = omega arith }

word_long : (w : Word) → HasText w → IsLong w.letters (word_text w) 4
word_long w h =
    let rest = letters_long w.letters in
    let some = decimal_nonempty w.root (omega (arith, h.root_high)) in
    let joined = length-append (decimal w.root) (letters_text w.letters) in
    record { letters = omega (arith, rest.letters); bytes = omega (arith, rest.bytes) }

-- the text of a row has a byte for each letter, and at least nine where both words have letters
record IsLongRow (row : Row) (text : List ℕ) : Type 0 where
  letters : length row.from.letters + length row.to.letters ≤ length text
  bytes : 9 ≤ length text + 2 * (root_once row.from.letters + root_once row.to.letters)

row_long : (row : Row) → HasRowText row → IsLongRow row (row_text row)
row_long row h =
    let from = word_long row.from h.from in
    let to = word_long row.to h.to in
    let front = length-append (word_text row.from) (codes ">") in
    let joined = length-append (word_text row.from ++ codes ">") (word_text row.to) in
    record { letters = omega (arith, from.letters, to.letters); bytes = omega (arith, from.bytes, to.bytes) }

-- and the text of rows too, with the bytes between them
record AreLong (rows : List Row) (text : List ℕ) : Type 0 where
  letters : all_letters (from_words rows) + all_letters (to_words rows) ≤ length text
  bytes : 10 * length rows ≤ suc (length text) + 2 * (count_roots (from_words rows) + count_roots (to_words rows))

last_long : (row : Row) (text : List ℕ) → IsLongRow row text → AreLong (row ∷ []) text
last_long row text h = record {
  letters = omega (arith, h.letters, sum_by-cons (λ (w : Word). length w.letters) row.from [], sum_by-cons (λ (w : Word). length w.letters) row.to []);
  bytes = omega (arith, h.bytes, sum_by-cons (λ (w : Word). root_once w.letters) row.from [], sum_by-cons (λ (w : Word). root_once w.letters) row.to []);
}

more_long : (row : Row) (rows : List Row) (first others text : List ℕ) → IsLongRow row first → AreLong rows others → length text ≡ suc (length first + length others) → AreLong (row ∷ rows) text
more_long row rows first others text h g e = record {
  letters = omega (arith, h.letters, g.letters, e, sum_by-cons (λ (w : Word). length w.letters) row.from (from_words rows), sum_by-cons (λ (w : Word). length w.letters) row.to (to_words rows));
  bytes = omega (arith, h.bytes, g.bytes, e, sum_by-cons (λ (w : Word). root_once w.letters) row.from (from_words rows), sum_by-cons (λ (w : Word). root_once w.letters) row.to (to_words rows));
}

rows_long : (rows : List Row) → HasRowsText rows → AreLong rows (rows_text rows)
rows_long [] h = record { letters = omega arith; bytes = omega arith }
rows_long (row ∷ []) h = last_long row (row_text row) (row_long row (All-head HasRowText row [] h))
rows_long (row ∷ next ∷ rows) h =
    more_long row (next ∷ rows) (row_text row) (rows_text (next ∷ rows)) (ended_text row ++ rows_text (next ∷ rows))
    (row_long row (All-head HasRowText row (next ∷ rows) h)) (rows_long (next ∷ rows) (All-tail HasRowText row (next ∷ rows) h))
    (omega (arith, length-append (ended_text row) (rows_text (next ∷ rows)), length-append (row_text row) (codes ";")))

-- a pair whose text has at most 65,536 bytes is within the limits
few_rows : (shape : Shape) (rows : List Row) → length (rows_text rows) ≤ 65536 → IsPair shape rows → length rows ≤ 8192
few_rows shape rows few pair =
    let long = rows_long rows (pair_has_texts shape rows pair) in
    omega (arith, long.bytes, shape.roots_high, few_roots shape (from_words rows) pair.from, few_roots shape (to_words rows) pair.to)

few_letters : (shape : Shape) (rows : List Row) → length (rows_text rows) ≤ 65536 → IsPair shape rows → longest_of rows ≤ 1024
few_letters shape rows few pair =
    let long = rows_long rows (pair_has_texts shape rows pair) in
    omega (arith, short_words shape (from_words rows) pair.from (omega (arith, long.letters)), short_words shape (to_words rows) pair.to (omega (arith, long.letters)))

-- so it is not large
not_large : (shape : Shape) (rows : List Row) (count letters : ℕ) → length (rows_text rows) ≤ 65536 → IsPair shape rows → IsLarge shape rows count letters → ⊥
not_large shape rows count letters few pair h =
    let small = canonical_small shape rows h.0.canonical pair h.0.is_canonical in
    elim h.1 [
      | inl more ↦ absurd (omega (arith, more, small.0, h.0.rows_is, few_rows shape rows few pair))
      | inr longer ↦ absurd (omega (arith, longer, small.1, h.0.letters_is, few_letters shape rows few pair))
    ]

-- the rows of a line are refused for another reason
pub never_large : (shape : Shape) (rows : List Row) (fault : RowsFault) → length (rows_text rows) ≤ 65536 → IsRowsFault shape rows fault → (count letters : ℕ) → fault ≢ Large count letters
never_large shape rows (Foreign place) few says count letters e = cc
never_large shape rows FromNotBasis few says count letters e = cc
never_large shape rows ToNotBasis few says count letters e = cc
never_large shape rows (Large many long) few says count letters e = not_large shape rows many long few says.0 says.1
never_large shape rows NoMemory few says count letters e = cc

-- ---- lines

-- a token and what is behind it are no longer than the bytes that they stand in
within : (F : List ℕ → List ℕ → Type 0) (bytes : List ℕ) (h : IsSpaced F bytes) → length h.token + length h.rest ≤ length bytes
within F bytes h = omega (arith, ap (λ (t : List ℕ). length t) h.is, length-append h.before (h.token ++ h.rest), length-append h.token h.rest)

rows_within : (bytes : List ℕ) (rows : List Row) → (AreRows rows ▸ IsSpaces) bytes → length (rows_text rows) ≤ length bytes
rows_within bytes rows h = omega (arith, ap (λ (t : List ℕ). length t) h.fits.0.is, within (λ token rest. AreRows rows token × IsSpaces rest) bytes h)

-- the rows of a short line have a short text
pub short_rows : (bytes : List ℕ) (line : Line) → IsLine bytes line → length bytes ≤ 65536 → HasShortRows line
short_rows bytes Blank is few = tt
short_rows bytes (Group n r) is few = tt
short_rows bytes (Reduce rows) is few = omega (arith, within (λ token rest. Is (codes "reduce") token × (AreRows rows ▸ IsSpaces) rest) bytes is, rows_within is.rest rows is.fits.1)
short_rows bytes (LetRows name rows) is few =
    let equals = is.fits.1.fits.1 in
    let all = within (λ token rest. Is (codes "let") token × (IsNamed name ▸ Is (codes "=") ▸ AreRows rows ▸ IsSpaces) rest) bytes is in
    let named = within (λ token rest. IsNamed name token × (Is (codes "=") ▸ AreRows rows ▸ IsSpaces) rest) is.rest is.fits.1 in
    let behind = within (λ token rest. Is (codes "=") token × (AreRows rows ▸ IsSpaces) rest) is.fits.1.rest equals in
    omega (arith, all, named, behind, rows_within equals.rest rows equals.fits.1)
short_rows bytes (LetProduct name factors) is few = tt
short_rows bytes (Show name) is few = tt
short_rows bytes (Equal first second) is few = tt
short_rows bytes (Image name word) is few = tt
short_rows bytes (Load name file) is few = tt
short_rows bytes (Basis name) is few = tt
short_rows bytes (Order name) is few = tt
short_rows bytes (Types name) is few = tt
short_rows bytes (Profile name) is few = tt
short_rows bytes (Parts periodic infinite whole) is few = tt
short_rows bytes (Conj name first second) is few = tt
short_rows bytes (Ponds name) is few = tt
short_rows bytes (Share name first second) is few = tt
short_rows bytes (Power first second) is few = tt

-- a line that loads names a file
pub names_file : (bytes : List ℕ) (line : Line) → IsLine bytes line → NamesFile line
names_file bytes Blank is = tt
names_file bytes (Group n r) is = tt
names_file bytes (Reduce rows) is = tt
names_file bytes (LetRows name rows) is = tt
names_file bytes (LetProduct name factors) is = tt
names_file bytes (Show name) is = tt
names_file bytes (Equal first second) is = tt
names_file bytes (Image name word) is = tt
names_file bytes (Load name file) is = let named = is.fits.1.fits.1.fits.0 in subst IsFileName named.1 named.0
names_file bytes (Basis name) is = tt
names_file bytes (Order name) is = tt
names_file bytes (Types name) is = tt
names_file bytes (Profile name) is = tt
names_file bytes (Parts periodic infinite whole) is = tt
names_file bytes (Conj name first second) is = tt
names_file bytes (Ponds name) is = tt
names_file bytes (Share name first second) is = tt
names_file bytes (Power first second) is = tt
