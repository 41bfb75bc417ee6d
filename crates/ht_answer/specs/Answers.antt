-- The texts of answers.
--
--     IsRefusal answer      the answer is a refusal
--     HasAnswerText answer  each of its words, kinds and ponds has a text, there is a word where words are asked for, and an order isn't wide
--     HasWordsText words    each of the words has a text
--     number_line text n    a text, a number and the line feed
--     name_line text name   a text, a name and the line feed
--     rows_line text rows   a text, the text of rows and the line feed
--     spaced_text word      a space and the text of the word
--     words_text words      the words, with a space between any two
--     refusal_text why      the line of a refusal
--     answer_text answer    the answer's line, with the line feed; nothing for a blank line
use Rattle.std.specs.Prelude.{◌≢◌, true, false, ℕ, List, [], ◌∷◌, ◌++◌, All, length, codes, decimal}
use Rattle.std.specs.Fmt.{signed_decimal}
use Rattle.std.specs.List.{flat_map}
use Rattle.ht_word.specs.declared.word.Word.{Word}
use Rattle.ht_pair.specs.declared.row.Row.{Row}
use Rattle.ht_answer.specs.declared.answer.Answer.{Answer}
use Rattle.ht_answer.specs.declared.answer.Answer.TheVariants.{Blank, Group, Pair, Let, Load, Equal, Basis, Order, Types, Profile, Parts, Conjugate, NotKept, NotConjugate, Ponds, Share, Powers, NoPowers, Refused}
use Rattle.ht_answer.specs.declared.answer.Refusal.{Refusal}
use Rattle.ht_answer.specs.declared.answer.Refusal.TheVariants as refusal
use Rattle.ht_text.specs.Texts.{HasText, HasRowsText, word_text, rows_text}
use Rattle.ht_answer.specs.KindTexts.{HasTypesText, types_text}
use Rattle.ht_answer.specs.OrderTexts.{HasOrderText, order_line, profile_text}
use Rattle.ht_answer.specs.OrbitTexts.{HasPondText, share_line, ponds_text}

abbrev pub IsRefusal : Answer → Type 0
IsRefusal Blank = ⊥
IsRefusal (Group n r) = ⊥
IsRefusal (Pair rows) = ⊥
IsRefusal (Let name rows) = ⊥
IsRefusal (Load name rows) = ⊥
IsRefusal (Equal alike) = ⊥
IsRefusal (Basis words) = ⊥
IsRefusal (Order order) = ⊥
IsRefusal (Types words kinds) = ⊥
IsRefusal (Profile profile) = ⊥
IsRefusal (Parts periodic infinite) = ⊥
IsRefusal (Conjugate rows) = ⊥
IsRefusal (NotKept letters rows) = ⊥
IsRefusal NotConjugate = ⊥
IsRefusal (Ponds ponds) = ⊥
IsRefusal (Share shared) = ⊥
IsRefusal (Powers i j by) = ⊥
IsRefusal NoPowers = ⊥
IsRefusal (Refused why) = Unit {0}

abbrev pub HasWordsText : List Word → Type 0
HasWordsText words = All HasText words

abbrev pub HasAnswerText : Answer → Type 0
HasAnswerText Blank = Unit {0}
HasAnswerText (Group n r) = Unit {0}
HasAnswerText (Pair rows) = HasRowsText rows
HasAnswerText (Let name rows) = Unit {0}
HasAnswerText (Load name rows) = Unit {0}
HasAnswerText (Equal alike) = Unit {0}
HasAnswerText (Basis words) = (words ≢ []) × HasWordsText words
HasAnswerText (Order order) = HasOrderText order
HasAnswerText (Types words kinds) = HasTypesText words kinds
HasAnswerText (Profile profile) = Unit {0}
HasAnswerText (Parts periodic infinite) = Unit {0}
HasAnswerText (Conjugate rows) = HasRowsText rows
HasAnswerText (NotKept letters rows) = HasRowsText rows
HasAnswerText NotConjugate = Unit {0}
HasAnswerText (Ponds ponds) = All HasPondText ponds
HasAnswerText (Share shared) = Unit {0}
HasAnswerText (Powers i j by) = HasRowsText by
HasAnswerText NoPowers = Unit {0}
HasAnswerText (Refused why) = Unit {0}

abbrev pub number_line : List ℕ → ℕ → List ℕ
number_line text n = text ++ decimal n ++ codes "\n"

abbrev pub name_line : List ℕ → List ℕ → List ℕ
name_line text name = text ++ name ++ codes "\n"

abbrev pub rows_line : List ℕ → List Row → List ℕ
rows_line text rows = text ++ rows_text rows ++ codes "\n"

abbrev pub spaced_text : Word → List ℕ
spaced_text word = codes " " ++ word_text word

abbrev pub words_text : List Word → List ℕ
words_text [] = []
words_text (word ∷ words) = word_text word ++ flat_map spaced_text words

abbrev pub refusal_text : Refusal → List ℕ
refusal_text (refusal.Syntax column) = number_line (codes "refused: syntax ") column
refusal_text refusal.Group = codes "refused: group\n"
refusal_text (refusal.Name name) = name_line (codes "refused: name ") name
refusal_text refusal.Names = codes "refused: names\n"
refusal_text refusal.File = codes "refused: file\n"
refusal_text (refusal.Form l) = number_line (codes "refused: file form ") l
refusal_text refusal.Shape = codes "refused: file shape\n"
refusal_text (refusal.RowsForeign place) = number_line (codes "refused: rows foreign ") place
refusal_text refusal.RowsFrom = codes "refused: rows from\n"
refusal_text refusal.RowsTo = codes "refused: rows to\n"
refusal_text refusal.Wide = codes "refused: wide\n"
refusal_text (refusal.Large rows letters) = codes "refused: large " ++ decimal rows ++ number_line (codes " ") letters
refusal_text (refusal.Word place) = number_line (codes "refused: word ") place
refusal_text (refusal.Budget name) = name_line (codes "refused: budget ") name
refusal_text (refusal.Above place) = number_line (codes "refused: above ") place

abbrev pub answer_text : Answer → List ℕ
answer_text Blank = []
answer_text (Group n r) = codes "group " ++ decimal n ++ number_line (codes " ") r
answer_text (Pair rows) = rows_line [] rows
answer_text (Let name rows) = codes "let " ++ name ++ number_line (codes " ") rows
answer_text (Load name rows) = codes "load " ++ name ++ number_line (codes " ") rows
answer_text (Equal true) = codes "yes\n"
answer_text (Equal false) = codes "no\n"
answer_text (Basis words) = words_text words ++ codes "\n"
answer_text (Order order) = order_line order
answer_text (Types words kinds) = types_text words kinds ++ codes "\n"
answer_text (Profile profile) = profile_text profile ++ codes "\n"
answer_text (Parts periodic infinite) = codes "parts " ++ decimal periodic ++ number_line (codes " ") infinite
answer_text (Conjugate rows) = rows_line (codes "conjugate ") rows
answer_text (NotKept letters rows) = codes "conjugate not kept " ++ decimal (length rows) ++ (codes " " ++ decimal letters) ++ rows_line (codes " ") rows
answer_text NotConjugate = codes "not conjugate\n"
answer_text (Ponds ponds) = ponds_text ponds ++ codes "\n"
answer_text (Share shared) = share_line shared
answer_text (Powers i j by) = codes "power " ++ signed_decimal i ++ codes " " ++ signed_decimal j ++ rows_line (codes " ") by
answer_text NoPowers = codes "power none\n"
answer_text (Refused why) = refusal_text why
