-- How lines end, and the longest fronts of these endings.
use Rattle.std.proofs.Common.{◌≡◌, ◌+◌, ◌⊎◌, inl, inr, ℕ, List, [], ◌∷◌, ◌++◌, length, refl, sym, ap, arith}
use Rattle.std.specs.Prelude.{codes}
use Rattle.std.proofs.lemmas.Fmt.{decimal_digit}
use Rattle.std.proofs.lemmas.List.Elements.{All-nil, All-cons}
use Rattle.ht_word.specs.Words.{root_word}
use Rattle.ht_pair.specs.declared.row.Row.{Row}
use Rattle.ht_text.specs.Fronts.{IsRowsText, IsLongestFront}
use Rattle.ht_text.specs.Texts.{IsDigitLetter, HasText, HasRowText, word_text, row_text}
use Rattle.ht_script.specs.declared.ending.Ending.{Ending}
use Rattle.ht_script.specs.declared.ending.Ending.TheVariants as ending
use Rattle.ht_script.specs.Tokens.{◌▸◌, IsSpaces, IsSpan, IsApart, IsFirstToken}
use Rattle.ht_script.specs.Slots.{IsOfEnding}
use Rattle.ht_script.proofs.TokenLaws.{AreTokens, spaced_before, one_spaced}
use Rattle.ht_script.proofs.FrontLaws.{longest_span, longest_same}
use Rattle.ht_script.proofs.GrammarLaws.{rows_token}
use Rattle.ht_script.proofs.SpacedFronts.{Fits, TakesSpace, longest_spaces, longest_in_token, longest_past_token}
use Rattle.ht_script.proofs.FactorFronts.{listed_before}

-- rows, and behind them spaces alone
abbrev pub RowsFit : List ℕ → List ℕ → Type 0
RowsFit token rest = IsRowsText token × IsSpaces rest

row_tokens : AreTokens RowsFit
row_tokens = λ t r h. rows_token t h.0.0 h.0.1

row_takes_space : TakesSpace RowsFit
row_takes_space = λ t r h. (h.0, All-cons (λ b. b ≡ 32) 32 r refl h.1)

-- the text of the root 1
pub root_text : HasText (root_word 1)
root_text = record { root_low = omega arith; root_high = omega arith; letters = All-nil IsDigitLetter }

pub root_is : codes "x1" ≡ word_text (root_word 1)
root_is = ap (λ d. (codes "x" ++ d) ++ []) (sym (decimal_digit 1 (omega arith)))

abbrev identity_row : Row
identity_row = record { from = root_word 1; to = root_word 1 }

identity_text : HasRowText identity_row
identity_text = record { from = root_text; to = root_text }

identity_is : codes "x1>x1" ≡ row_text identity_row
identity_is = ap (λ d. (((codes "x" ++ d) ++ []) ++ codes ">") ++ ((codes "x" ++ d) ++ [])) (sym (decimal_digit 1 (omega arith)))

some_rows : IsRowsText (codes "x1>x1")
some_rows = (identity_row ∷ [], record { some = λ none. cc; have_texts = All-cons HasRowText identity_row [] identity_text (All-nil HasRowText); is = identity_is })

rows_fit : (t : List ℕ) → IsRowsText t → Fits RowsFit t
rows_fit t h = ([], (h, All-nil (λ b. b ≡ 32)))

-- only spaces
pub longest_no_rows : (bytes : List ℕ) → IsSpaces bytes → IsLongestFront (IsRowsText ▸ IsSpaces) bytes (length bytes)
longest_no_rows bytes spaces = longest_spaces RowsFit bytes (codes "x1>x1") row_takes_space (rows_fit (codes "x1>x1") some_rows) spaces

-- the first token is the last one, or no rows
pub longest_in_rows : (bytes : List ℕ) (at : ℕ) (token rest : List ℕ) (j : ℕ) → IsFirstToken bytes at token rest → (rest ≡ []) ⊎ ¬ IsRowsText token → IsLongestFront IsRowsText token j → IsLongestFront (IsRowsText ▸ IsSpaces) bytes (at + j)
longest_in_rows bytes at token rest j h none front =
    longest_in_token RowsFit bytes at token rest j row_tokens row_takes_space h (elim none [ inl e ↦ inl e | inr other ↦ inr (λ f. other f.1.0) ])
    (longest_same IsRowsText (Fits RowsFit) token j rows_fit (λ t f. f.1.0) front)

-- the first token is rows
pub longest_past_rows : (bytes : List ℕ) (at : ℕ) (token rest : List ℕ) (k : ℕ) → IsFirstToken bytes at token rest → IsRowsText token → IsSpan (λ b. b ≡ 32) rest k → IsLongestFront (IsRowsText ▸ IsSpaces) bytes (at + length token + k)
longest_past_rows bytes at token rest k h rows spaces =
    longest_past_token RowsFit bytes at token rest k row_tokens row_takes_space h (longest_same IsSpaces (RowsFit token) rest k (λ t f. (rows, f)) (λ t f. f.1) (longest_span (λ b. b ≡ 32) rest k spaces))

-- one more space may stand before an ending
pub ending_before : (e : Ending) (bytes : List ℕ) → IsOfEnding e bytes → IsOfEnding e (32 ∷ bytes)
ending_before ending.Spaces bytes h = All-cons (λ b. b ≡ 32) 32 bytes refl h
ending_before ending.Rows bytes h = spaced_before RowsFit bytes h
ending_before ending.Value bytes (inl h) = inl (spaced_before RowsFit bytes h)
ending_before ending.Value bytes (inr h) = inr (h.0, (h.1.0, listed_before h.0 bytes h.1.1))

-- each ending has some bytes
pub some_ending : (e : Ending) → (bytes : List ℕ) × IsOfEnding e bytes × IsApart bytes
some_ending ending.Spaces = ([], All-nil (λ b. b ≡ 32), tt)
some_ending ending.Rows = (32 ∷ (codes "x1>x1" ++ []), one_spaced RowsFit (codes "x1>x1") [] (some_rows, All-nil (λ b. b ≡ 32)) tt, refl)
some_ending ending.Value = (32 ∷ (codes "x1>x1" ++ []), inl (one_spaced RowsFit (codes "x1>x1") [] (some_rows, All-nil (λ b. b ≡ 32)) tt), refl)
