-- The texts of the answer to `types`: one entry for each word. A reach tells its word by the place in the list of all words.
--
--     HasWholeText words reach     the reach's place is one of the words', and the whole word reached has a text
--     HasReachText words found     where there is a reach, so does its word
--     HasKindText words kind       the letters of an attractor or a repeller are from 1 to 9, and the words reached have texts
--     HasTypesText words kinds     there is a word, and each word and its kind have texts
--     behind_text found rest       the word found with the letters behind it
--     reached_text words reach     the steps, `:` and the whole word reached
--     reach_text words found       the same, and `-` for no reach
--     turn_text m by               the number and the letters
--     kind_text words kind         the name of the kind and what it holds
--     entry_text words entry       a word and its kind
--     later_entry_text words entry an entry that isn't the first: `;` and its text
--     entries_text words entries   the entries, joined by `;`
--     types_text words kinds       the entries of the words with their kinds
use Rattle.std.specs.Prelude.{◌≡◌, ◌≢◌, ℕ, ◌<◌, List, [], ◌∷◌, ◌++◌, All, Option, None, Some, length, slice_get, codes, decimal, map}
use Rattle.std.specs.List.{flat_map, zip}
use Rattle.ht_word.specs.declared.word.Word.{Word}
use Rattle.ht_word.specs.Words.{◌·◌}
use Rattle.ht_types.specs.declared.kind.Reach.{Reach}
use Rattle.ht_types.specs.declared.kind.Kind.{Kind}
use Rattle.ht_types.specs.declared.kind.Kind.TheVariants.{Cycle, Attractor, Repeller, Passing}
use Rattle.ht_text.specs.Texts.{IsDigitLetter, HasText, letter_code, word_text}

pub record HasWholeText (words : List Word) (reach : Reach) : Type 0 where
  pub inside : reach.to < length words
  pub whole : (above : Word) → slice_get words reach.to ≡ Some above → HasText (above · reach.rest)

abbrev pub HasReachText : List Word → Option Reach → Type 0
HasReachText words None = Unit {0}
HasReachText words (Some reach) = HasWholeText words reach

abbrev pub HasKindText : List Word → Kind → Type 0
HasKindText words (Cycle m) = Unit {0}
HasKindText words (Attractor m by) = All IsDigitLetter by
HasKindText words (Repeller m by) = All IsDigitLetter by
HasKindText words (Passing ahead behind) = HasReachText words ahead × HasReachText words behind

pub record HasTypesText (words : List Word) (kinds : List Kind) : Type 0 where
  pub some : words ≢ []
  pub words_have_texts : All HasText words
  pub as_many : length kinds ≡ length words
  pub kinds_have_texts : All (HasKindText words) kinds

abbrev pub behind_text : Option Word → List ℕ → List ℕ
behind_text None rest = []
behind_text (Some above) rest = word_text (above · rest)

abbrev pub reached_text : List Word → Reach → List ℕ
reached_text words reach = decimal reach.steps ++ codes ":" ++ behind_text (slice_get words reach.to) reach.rest

abbrev pub reach_text : List Word → Option Reach → List ℕ
reach_text words None = codes "-"
reach_text words (Some reach) = reached_text words reach

abbrev pub turn_text : ℕ → List ℕ → List ℕ
turn_text m by = decimal m ++ codes " " ++ map letter_code by

abbrev pub kind_text : List Word → Kind → List ℕ
kind_text words (Cycle m) = codes "cycle " ++ decimal m
kind_text words (Attractor m by) = codes "attractor " ++ turn_text m by
kind_text words (Repeller m by) = codes "repeller " ++ turn_text m by
kind_text words (Passing ahead behind) = codes "passing " ++ reach_text words ahead ++ codes " " ++ reach_text words behind

abbrev pub entry_text : List Word → (Word × Kind) → List ℕ
entry_text words entry = word_text entry.0 ++ codes " " ++ kind_text words entry.1

abbrev pub later_entry_text : List Word → (Word × Kind) → List ℕ
later_entry_text words entry = codes ";" ++ entry_text words entry

abbrev pub entries_text : List Word → List (Word × Kind) → List ℕ
entries_text words [] = []
entries_text words (entry ∷ entries) = entry_text words entry ++ flat_map (later_entry_text words) entries

abbrev pub types_text : List Word → List Kind → List ℕ
types_text words kinds = entries_text words (zip words kinds)
