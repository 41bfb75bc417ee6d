-- How the texts of answers begin.
use Rattle.std.proofs.Common.{Bool, true, false, Some, None, ◌≡◌, ◌≢◌, ◌<◌, ◌/◌, ◌%◌, ◌↔◌, ◌∙◌, ℕ, zero, suc, List, [], ◌∷◌, ◌++◌, refl, sym, ap, arith}
use Rattle.std.specs.Prelude.{◌==◌, if◌then◌else◌, codes, decimal}
use Rattle.std.specs.Fmt.{digits, digits_onto, digit_glyph}
use Rattle.std.specs.List.{flat_map}
use Rattle.std.proofs.lemmas.Bool.Decides.{nat_tests}
use Rattle.ht_word.specs.declared.word.Word.{Word}
use Rattle.ht_pair.specs.declared.row.Row.{Row}
use Rattle.ht_text.specs.Texts.{rows_text}
use Rattle.ht_types.specs.declared.order.Order.TheVariants as order
use Rattle.ht_types.specs.declared.kind.Kind.{Kind}
use Rattle.ht_types.specs.declared.sharing.Pond.{Pond}
use Rattle.ht_answer.specs.declared.answer.Answer.{Answer}
use Rattle.ht_answer.specs.declared.answer.Answer.TheVariants.{Blank, Group, Pair, Let, Load, Equal, Basis, Order, Types, Profile, Parts, Conjugate, NotKept, NotConjugate, Ponds, Share, Powers, NoPowers, Refused}
use Rattle.ht_answer.specs.declared.answer.Refusal.{Refusal}
use Rattle.ht_answer.specs.declared.answer.Refusal.TheVariants as refusal
use Rattle.ht_answer.specs.Answers.{IsRefusal, number_line, words_text, answer_text}
use Rattle.ht_answer.specs.KindTexts.{types_text}
use Rattle.ht_answer.specs.OrderTexts.{cycles_text, spaced_cycles_text, profile_text}
use Rattle.ht_answer.specs.OrbitTexts.{ponds_text}

-- the text begins with `refused: `
abbrev pub BeginsRefused : List ℕ → Type 0
BeginsRefused text = (rest : List ℕ) × (text ≡ codes "refused: " ++ rest)

-- a refusal begins so
refusal_begins : (why : Refusal) → BeginsRefused (answer_text (Refused why))
refusal_begins (refusal.Syntax column) = (codes "syntax " ++ decimal column ++ codes "\n", refl)
refusal_begins refusal.Group = (codes "group\n", refl)
refusal_begins (refusal.Name name) = (codes "name " ++ name ++ codes "\n", refl)
refusal_begins refusal.Names = (codes "names\n", refl)
refusal_begins refusal.File = (codes "file\n", refl)
refusal_begins (refusal.Form l) = (codes "file form " ++ decimal l ++ codes "\n", refl)
refusal_begins refusal.Shape = (codes "file shape\n", refl)
refusal_begins (refusal.RowsForeign place) = (codes "rows foreign " ++ decimal place ++ codes "\n", refl)
refusal_begins refusal.RowsFrom = (codes "rows from\n", refl)
refusal_begins refusal.RowsTo = (codes "rows to\n", refl)
refusal_begins refusal.Wide = (codes "wide\n", refl)
refusal_begins (refusal.Large rows letters) = (codes "large " ++ decimal rows ++ number_line (codes " ") letters, refl)
refusal_begins (refusal.Word place) = (codes "word " ++ decimal place ++ codes "\n", refl)
refusal_begins (refusal.Budget name) = (codes "budget " ++ name ++ codes "\n", refl)
refusal_begins (refusal.Above place) = (codes "above " ++ decimal place ++ codes "\n", refl)

-- lists with other first items are others
other_head : (a b : ℕ) (x y : List ℕ) → a ≢ b → a ∷ x ≢ b ∷ y
other_head a b x y other e = let same : a ≡ b = cc in other same

-- rows don't begin with the `r` of `refused`
rows_begin : (rows : List Row) (rest : List ℕ) → rows_text rows ++ 10 ∷ [] ≢ 114 ∷ rest
rows_begin [] rest e = other_head 10 114 _ _ (λ same. absurd (omega arith)) e
rows_begin (row ∷ []) rest e = other_head 120 114 _ _ (λ same. absurd (omega arith)) e
rows_begin (row ∷ next ∷ rows) rest e = other_head 120 114 _ _ (λ same. absurd (omega arith)) e

-- nor do words
words_begin : (words : List Word) (rest : List ℕ) → words_text words ++ 10 ∷ [] ≢ 114 ∷ rest
words_begin [] rest e = other_head 10 114 _ _ (λ same. absurd (omega arith)) e
words_begin (word ∷ words) rest e = other_head 120 114 _ _ (λ same. absurd (omega arith)) e

-- nor do the entries of words
types_begin : (words : List Word) (kinds : List Kind) (rest : List ℕ) → types_text words kinds ++ 10 ∷ [] ≢ 114 ∷ rest
types_begin [] kinds rest e = other_head 10 114 _ _ (λ same. absurd (omega arith)) e
types_begin (word ∷ words) [] rest e = other_head 10 114 _ _ (λ same. absurd (omega arith)) e
types_begin (word ∷ words) (kind ∷ kinds) rest e = other_head 120 114 _ _ (λ same. absurd (omega arith)) e

-- nor do ponds
ponds_begin : (ponds : List Pond) (rest : List ℕ) → ponds_text ponds ++ 10 ∷ [] ≢ 114 ∷ rest
ponds_begin [] rest e = other_head 110 114 _ _ (λ same. absurd (omega arith)) e
ponds_begin (pond ∷ ponds) rest e = other_head 120 114 _ _ (λ same. absurd (omega arith)) e

-- the text begins with a byte below that of the `r`
record BeginsLow (text : List ℕ) : Type 0 where
  first : ℕ
  rest : List ℕ
  low : first < 114
  is : text ≡ first ∷ rest

-- so it does with more behind it
more_behind : (text more : List ℕ) → BeginsLow text → BeginsLow (text ++ more)
more_behind text more h = record { first = h.first; rest = h.rest ++ more; low = h.low; is = ap (λ t. t ++ more) h.is }

-- either of two texts does
either_begins : (b : Bool) (x y : List ℕ) → BeginsLow x → BeginsLow y → BeginsLow (if b then x else y)
either_begins true x y g h = g
either_begins false x y g h = h

-- a digit does
digit_begins : (n : ℕ) (rest : List ℕ) → BeginsLow (digit_glyph false (n % 10) ∷ rest)
digit_begins n rest = record { first = digit_glyph false (n % 10); rest = rest; low = grind (arith, nat_tests); is = refl }

-- digits do
digits_begin : (k n : ℕ) (rest : List ℕ) → BeginsLow (digits_onto (suc k) 10 false n rest)
digits_begin zero n rest =
    either_begins (n / 10 == 0) (digit_glyph false (n % 10) ∷ rest) (digit_glyph false (n % 10) ∷ rest) (digit_begins n rest) (digit_begins n rest)
digits_begin (suc k) n rest =
    either_begins (n / 10 == 0) (digit_glyph false (n % 10) ∷ rest) (digits_onto (suc k) 10 false (n / 10) (digit_glyph false (n % 10) ∷ rest))
    (digit_begins n rest) (digits_begin k (n / 10) (digit_glyph false (n % 10) ∷ rest))

-- so the text of a number does
number_begins : (n : ℕ) → BeginsLow (decimal n)
unfolding digits
number_begins n = digits_begin 63 n []

-- a profile doesn't begin with the `r`
profile_begins : (profile : List (ℕ × ℕ)) (rest : List ℕ) → profile_text profile ++ 10 ∷ [] ≢ 114 ∷ rest
profile_begins [] rest e = other_head 110 114 _ _ (λ same. absurd (omega arith)) e
profile_begins (entry ∷ entries) rest e =
    let low = more_behind (cycles_text entry ++ flat_map spaced_cycles_text entries) (10 ∷ []) (more_behind (cycles_text entry) (flat_map spaced_cycles_text entries)
    (more_behind (decimal entry.0 ++ 58 ∷ []) (decimal entry.1) (more_behind (decimal entry.0) (58 ∷ []) (number_begins entry.0)))) in
    let below : low.first < 114 = low.low in
    other_head low.first 114 low.rest rest (λ same. absurd (omega arith)) (sym low.is ∙ e)

-- a line isn't empty
no_empty : (b : ℕ) (x : List ℕ) → [] ≢ b ∷ x
no_empty b x none = cc

-- no other answer begins so
begins_refused : (answer : Answer) (rest : List ℕ) → answer_text answer ≡ codes "refused: " ++ rest → IsRefusal answer
begins_refused Blank rest e = no_empty _ _ e
begins_refused (Group n r) rest e = other_head 103 114 _ _ (λ same. absurd (omega arith)) e
begins_refused (Pair rows) rest e = rows_begin rows (codes "efused: " ++ rest) e
begins_refused (Let name rows) rest e = other_head 108 114 _ _ (λ same. absurd (omega arith)) e
begins_refused (Load name rows) rest e = other_head 108 114 _ _ (λ same. absurd (omega arith)) e
begins_refused (Equal true) rest e = other_head 121 114 _ _ (λ same. absurd (omega arith)) e
begins_refused (Equal false) rest e = other_head 110 114 _ _ (λ same. absurd (omega arith)) e
begins_refused (Basis words) rest e = words_begin words (codes "efused: " ++ rest) e
begins_refused (Order (order.Finite k)) rest e = other_head 111 114 _ _ (λ same. absurd (omega arith)) e
begins_refused (Order order.Infinite) rest e = other_head 111 114 _ _ (λ same. absurd (omega arith)) e
begins_refused (Order order.Wide) rest e = no_empty _ _ e
begins_refused (Types words kinds) rest e = types_begin words kinds (codes "efused: " ++ rest) e
begins_refused (Profile profile) rest e = profile_begins profile (codes "efused: " ++ rest) e
begins_refused (Parts periodic infinite) rest e = other_head 112 114 _ _ (λ same. absurd (omega arith)) e
begins_refused (Conjugate rows) rest e = other_head 99 114 _ _ (λ same. absurd (omega arith)) e
begins_refused (NotKept letters rows) rest e = other_head 99 114 _ _ (λ same. absurd (omega arith)) e
begins_refused NotConjugate rest e = other_head 110 114 _ _ (λ same. absurd (omega arith)) e
begins_refused (Ponds ponds) rest e = ponds_begin ponds (codes "efused: " ++ rest) e
begins_refused (Share (Some k)) rest e = other_head 115 114 _ _ (λ same. absurd (omega arith)) e
begins_refused (Share None) rest e = other_head 115 114 _ _ (λ same. absurd (omega arith)) e
begins_refused (Powers i j by) rest e = other_head 112 114 _ _ (λ same. absurd (omega arith)) e
begins_refused NoPowers rest e = other_head 112 114 _ _ (λ same. absurd (omega arith)) e
begins_refused (Refused why) rest e = tt

-- `refusal_begins`, of answers
refusal_text_begins : (answer : Answer) → IsRefusal answer → BeginsRefused (answer_text answer)
refusal_text_begins Blank h = absurd h
refusal_text_begins (Group n r) h = absurd h
refusal_text_begins (Pair rows) h = absurd h
refusal_text_begins (Let name rows) h = absurd h
refusal_text_begins (Load name rows) h = absurd h
refusal_text_begins (Equal alike) h = absurd h
refusal_text_begins (Basis words) h = absurd h
refusal_text_begins (Order order) h = absurd h
refusal_text_begins (Types words kinds) h = absurd h
refusal_text_begins (Profile profile) h = absurd h
refusal_text_begins (Parts periodic infinite) h = absurd h
refusal_text_begins (Conjugate rows) h = absurd h
refusal_text_begins (NotKept letters rows) h = absurd h
refusal_text_begins NotConjugate h = absurd h
refusal_text_begins (Ponds ponds) h = absurd h
refusal_text_begins (Share shared) h = absurd h
refusal_text_begins (Powers i j by) h = absurd h
refusal_text_begins NoPowers h = absurd h
refusal_text_begins (Refused why) h = refusal_begins why

-- the refusals are the answers whose texts begin with `refused: `
pub refusal_told : (answer : Answer) → IsRefusal answer ↔ BeginsRefused (answer_text answer)
refusal_told answer = (refusal_text_begins answer, (λ h. begins_refused answer h.0 h.1))
