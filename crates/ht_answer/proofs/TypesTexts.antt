-- The entries of the answer to `types`.
use Rattle.std.proofs.Common.{◌≡◌, ◌<◌, ◌∙◌, ℕ, List, ◌∷◌, ◌++◌, length, get_or, sym, ap, arith}
use Rattle.std.specs.List.{flat_map, zip}
use Rattle.std.proofs.lemmas.Slice.Zip.{length-zip, get_or-zip}
use Rattle.ht_word.specs.declared.word.Word.{Word}
use Rattle.ht_types.specs.declared.kind.Kind.{Kind}
use Rattle.ht_answer.specs.KindTexts.{entry_text, later_entry_text, entries_text, types_text}

-- the first entry and the others
pub first_and_later : (words words_behind : List Word) (kinds kinds_behind : List Kind) (word : Word) (kind : Kind) → words ≡ word ∷ words_behind → kinds ≡ kind ∷ kinds_behind
    → types_text words kinds ≡ entry_text words (word, kind) ++ flat_map (later_entry_text words) (zip words_behind kinds_behind)
first_and_later words words_behind kinds kinds_behind word kind split split_kinds =
    ap (λ t. entries_text words (zip t kinds)) split ∙ ap (λ t. entries_text words (zip (word ∷ words_behind) t)) split_kinds

-- there are as many entries as words
pub number_of_entries : (words : List Word) (kinds : List Kind) → length kinds ≡ length words → length (zip words kinds) ≡ length words
number_of_entries words kinds as_many = omega (arith, length-zip words kinds)

-- the entry of each word
pub entry_at : (words : List Word) (kinds : List Kind) (i : ℕ) (word : Word) (kind : Kind) → length kinds ≡ length words → i < length words
    → word ≡ get_or words i word → kind ≡ get_or kinds i kind → get_or (zip words kinds) i (word, kind) ≡ (word, kind)
entry_at words kinds i word kind as_many within here same =
    let within_kinds : i < length kinds = omega arith in
    get_or-zip words kinds i (word, kind) within within_kinds ∙ ap (λ t. (t, get_or kinds i kind)) (sym here) ∙ ap (λ t. (word, t)) (sym same)
