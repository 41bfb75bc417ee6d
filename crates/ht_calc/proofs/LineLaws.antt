-- The lines of a script, of its front, and within the limits.
use Rattle.std.proofs.Common.{◌≡◌, ◌≢◌, ℕ, zero, suc, ◌<◌, ◌≤◌, inl, inr, List, [], ◌∷◌, ◌++◌, length, take, true, false, ap, refl, sym, ◌∙◌, subst, append_assoc, length-append, arith}
use Rattle.std.specs.Prelude.{All, Any, Contains, take_while, ◌==◌, ◌⊎◌, nat_le}
use Rattle.std.specs.List.{AllByRecursion}
use Rattle.std.proofs.lemmas.Bool.Decides.{nat_tests}
use Rattle.std.proofs.lemmas.List.Elements.{recursion_from_All, All-head, All-tail, All-contains, Contains-append_right}
use Rattle.std.proofs.lemmas.List.Sums.{take_while-cons}
use Rattle.ht_calc.specs.ScriptLines.{lines_of, whole_lines, onto_first, onto_whole, counting_lines, IsShort, IsTooLong}
use Rattle.ht_calc.specs.Progress.{IsOneLine, whole_text, IsCut}

feed : (b : ℕ) → b ≡ 10 → (b == 10) ≡ true
feed b e = grind (arith, nat_tests)

no_feed : (b : ℕ) → b ≢ 10 → (b == 10) ≡ false
no_feed b e = grind (arith, nat_tests)

-- a line that ends with a line feed
lines_after : (a b : List ℕ) → AllByRecursion (λ y. y ≢ 10) a → lines_of (a ++ 10 ∷ b) ≡ a ∷ lines_of b
lines_after [] b p = refl
lines_after (x ∷ a) b p = rw (no_feed x p.0) (ap (onto_first x) (lines_after a b p.1))

whole_after : (a b : List ℕ) → AllByRecursion (λ y. y ≢ 10) a → whole_lines (a ++ 10 ∷ b) ≡ a ∷ whole_lines b
whole_after [] b p = refl
whole_after (x ∷ a) b p = rw (no_feed x p.0) (ap (onto_whole x) (whole_after a b p.1))

pub first_line : (a b : List ℕ) → IsOneLine a → lines_of (a ++ 10 ∷ b) ≡ a ∷ lines_of b
first_line a b one = lines_after a b (recursion_from_All (λ y. y ≢ 10) a one)

-- what is begun, and the end of that line
pub next_line : (begun end after : List ℕ) → IsOneLine (begun ++ end) → lines_of (begun ++ (end ++ 10 ∷ after)) ≡ (begun ++ end) ∷ lines_of after
next_line begun end after one = ap lines_of (sym (append_assoc begun end (10 ∷ after))) ∙ first_line (begun ++ end) after one

first_whole : (a b : List ℕ) → IsOneLine a → whole_lines (a ++ 10 ∷ b) ≡ a ∷ whole_lines b
first_whole a b one = whole_after a b (recursion_from_All (λ y. y ≢ 10) a one)

-- bytes without a line feed
one_part : (x : ℕ) (a : List ℕ) → AllByRecursion (λ y. y ≢ 10) (x ∷ a) → lines_of (x ∷ a) ≡ (x ∷ a) ∷ []
one_part x [] p = rw (no_feed x p.0) refl
one_part x (y ∷ a) p = rw (no_feed x p.0) (ap (onto_first x) (one_part y a p.1))

pub last_line : (bytes : List ℕ) → 0 < length bytes → IsOneLine bytes → lines_of bytes ≡ bytes ∷ []
last_line [] some one = absurd (omega arith)
last_line (x ∷ a) some one = one_part x a (recursion_from_All (λ y. y ≢ 10) (x ∷ a) one)

no_part : (a : List ℕ) → AllByRecursion (λ y. y ≢ 10) a → whole_lines a ≡ []
no_part [] p = refl
no_part (x ∷ a) p = rw (no_feed x p.0) (ap (onto_whole x) (no_part a p.1))

none_whole : (bytes : List ℕ) → IsOneLine bytes → whole_lines bytes ≡ []
none_whole bytes one = no_part bytes (recursion_from_All (λ y. y ≢ 10) bytes one)

-- one line more before
line_before : (line : List ℕ) (lines : List (List ℕ)) (b : List ℕ) → whole_text (line ∷ lines) ++ b ≡ line ++ 10 ∷ (whole_text lines ++ b)
line_before line lines b = simp append_assoc

lines_cut : (lines : List (List ℕ)) (b : List ℕ) → All IsOneLine lines → lines_of (whole_text lines ++ b) ≡ lines ++ lines_of b
lines_cut [] b one = refl
lines_cut (line ∷ lines) b one =
    ap lines_of (line_before line lines b) ∙ first_line line (whole_text lines ++ b) (All-head IsOneLine line lines one)
    ∙ ap (λ (rest : List (List ℕ)). line ∷ rest) (lines_cut lines b (All-tail IsOneLine line lines one))

whole_cut : (lines : List (List ℕ)) (b : List ℕ) → All IsOneLine lines → whole_lines (whole_text lines ++ b) ≡ lines ++ whole_lines b
whole_cut [] b one = refl
whole_cut (line ∷ lines) b one =
    ap whole_lines (line_before line lines b) ∙ first_whole line (whole_text lines ++ b) (All-head IsOneLine line lines one)
    ∙ ap (λ (rest : List (List ℕ)). line ∷ rest) (whole_cut lines b (All-tail IsOneLine line lines one))

-- the lines of a script that is cut, with more bytes behind
pub lines_behind : (T : List ℕ) (lines : List (List ℕ)) (begun more : List ℕ) → IsCut T lines begun → lines_of (T ++ more) ≡ lines ++ lines_of (begun ++ more)
lines_behind T lines begun more cut =
    ap (λ (t : List ℕ). lines_of (t ++ more)) cut.bytes ∙ ap lines_of (append_assoc (whole_text lines) begun more) ∙ lines_cut lines (begun ++ more) cut.one_line

pub whole_behind : (T : List ℕ) (lines : List (List ℕ)) (begun more : List ℕ) → IsCut T lines begun → whole_lines (T ++ more) ≡ lines ++ whole_lines (begun ++ more)
whole_behind T lines begun more cut =
    ap (λ (t : List ℕ). whole_lines (t ++ more)) cut.bytes ∙ ap whole_lines (append_assoc (whole_text lines) begun more) ∙ whole_cut lines (begun ++ more) cut.one_line

pub lines_now : (T : List ℕ) (lines : List (List ℕ)) (begun : List ℕ) → IsCut T lines begun → lines_of T ≡ lines ++ lines_of begun
lines_now T lines begun cut = ap lines_of cut.bytes ∙ lines_cut lines begun cut.one_line

-- the whole lines of a script that is cut
pub whole_now : (T : List ℕ) (lines : List (List ℕ)) (begun : List ℕ) → IsCut T lines begun → IsOneLine begun → whole_lines T ≡ lines ++ []
whole_now T lines begun cut one =
    ap whole_lines cut.bytes ∙ whole_cut lines begun cut.one_line ∙ ap (λ (rest : List (List ℕ)). lines ++ rest) (none_whole begun one)

-- the lines that count, by a limit on their number
abbrev counted : ℕ → List (List ℕ) → List (List ℕ)
counted most lines = take most (take_while (λ line. nat_le (length line) 65536) lines)

short_passes : (line : List ℕ) → IsShort line → nat_le (length line) 65536 ≡ true
short_passes line short = grind (arith, nat_tests)

long_fails : (line : List ℕ) → 65536 < length line → nat_le (length line) 65536 ≡ false
long_fails line long = grind (arith, nat_tests)

take_none : (lines : List (List ℕ)) → take 0 lines ≡ []
take_none [] = refl
take_none (line ∷ lines) = refl

take_of_none : (n : ℕ) → take {A = List ℕ} n [] ≡ []
take_of_none zero = refl
take_of_none (suc n) = refl

counted_more : (most : ℕ) (line : List ℕ) (lines : List (List ℕ)) → IsShort line → counted (suc most) (line ∷ lines) ≡ line ∷ counted most lines
counted_more most line lines short =
    let cons = take_while-cons (λ (l : List ℕ). nat_le (length l) 65536) line lines in
    rw cons (rw (short_passes line short) refl)

-- the first lines, where they are within the limits, count
front_counts : (most : ℕ) (lines more : List (List ℕ)) → All IsShort lines → length lines ≤ most → take (length lines) (counted most (lines ++ more)) ≡ lines
front_counts most [] more short few = take_none (counted most more)
front_counts zero (line ∷ lines) more short few = absurd (omega arith)
front_counts (suc most) (line ∷ lines) more short few =
    rw (counted_more most line (lines ++ more) (All-head IsShort line lines short))
    (ap (λ (rest : List (List ℕ)). line ∷ rest) (front_counts most lines more (All-tail IsShort line lines short) (omega arith)))

-- all lines count, where they are within the limits
all_count : (most : ℕ) (lines : List (List ℕ)) → All IsShort lines → length lines ≤ most → counted most lines ≡ lines
all_count most [] short few = take_of_none most
all_count zero (line ∷ lines) short few = absurd (omega arith)
all_count (suc most) (line ∷ lines) short few =
    counted_more most line lines (All-head IsShort line lines short)
    ∙ ap (λ (rest : List (List ℕ)). line ∷ rest) (all_count most lines (All-tail IsShort line lines short) (omega arith))

-- no line counts behind the last one that there is room for, and none from the first long one on
counted_before : (most : ℕ) (lines : List (List ℕ)) (next : List ℕ) (others : List (List ℕ)) → All IsShort lines → length lines ≤ most
    → (length lines ≡ most) ⊎ (65536 < length next) → counted most (lines ++ next ∷ others) ≡ lines
counted_before most [] next others short few (inl full) =
    let passing = take_while (λ (l : List ℕ). nat_le (length l) 65536) (next ∷ others) in
    subst (λ (n : ℕ). take n passing ≡ []) full (take_none passing)
counted_before most [] next others short few (inr long) =
    let cons = take_while-cons (λ (l : List ℕ). nat_le (length l) 65536) next others in
    rw cons (rw (long_fails next long) (take_of_none most))
counted_before zero (line ∷ lines) next others short few why = absurd (omega arith)
counted_before (suc most) (line ∷ lines) next others short few why =
    counted_more most line (lines ++ next ∷ others) (All-head IsShort line lines short)
    ∙ ap (λ (rest : List (List ℕ)). line ∷ rest) (counted_before most lines next others (All-tail IsShort line lines short) (omega arith) (less why))
  where
    less : (suc (length lines) ≡ suc most) ⊎ (65536 < length next) → (length lines ≡ most) ⊎ (65536 < length next)
    less (inl full) = inl (omega arith)
    less (inr long) = inr long

-- what is read so far is a front of the lines that count
pub front_of_counting : (T : List ℕ) (lines more : List (List ℕ)) → lines_of T ≡ lines ++ more → All IsShort lines → length lines ≤ 65536 → take (length lines) (counting_lines T) ≡ lines
front_of_counting T lines more are short few = rw are (front_counts 65536 lines more short few)

pub all_counting : (T : List ℕ) (lines : List (List ℕ)) → lines_of T ≡ lines → All IsShort lines → length lines ≤ 65536 → counting_lines T ≡ lines
all_counting T lines are short few = rw are (all_count 65536 lines short few)

pub counting_before : (T : List ℕ) (lines : List (List ℕ)) (next : List ℕ) (others : List (List ℕ)) → lines_of T ≡ lines ++ next ∷ others → All IsShort lines → length lines ≤ 65536
    → (length lines ≡ 65536) ⊎ (65536 < length next) → counting_lines T ≡ lines
counting_before T lines next others are short few why = rw are (counted_before 65536 lines next others short few why)

-- a script within the limits isn't too long
pub within_limits : (T : List ℕ) (lines : List (List ℕ)) → lines_of T ≡ lines → All IsShort lines → length lines ≤ 65536 → ¬ IsTooLong T
within_limits T lines are short few (inl (k, line, below, is, long)) =
    let shorter = All-contains IsShort (lines_of T) line (subst (All IsShort) (sym are) short) (k, below, is) in
    omega arith
within_limits T lines are short few (inr many) = let same = ap length are in omega arith

-- one with a line that is too much is too long
pub beyond_limits : (T : List ℕ) (lines : List (List ℕ)) (next : List ℕ) (others : List (List ℕ)) → lines_of T ≡ lines ++ next ∷ others
    → (length lines ≡ 65536) ⊎ (65536 < length next) → IsTooLong T
beyond_limits T lines next others are (inl full) = inr (rw are (rw length-append (omega arith)))
beyond_limits T lines next others are (inr long) =
    let c : Contains (lines ++ next ∷ others) next = Contains-append_right lines (next ∷ others) next (0, omega arith, refl) in
    inl (subst (Any (λ (line : List ℕ). 65536 < length line)) (sym are) (c.0, next, c.1, c.2, long))
