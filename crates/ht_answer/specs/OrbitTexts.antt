-- The texts of the answers to `share` and `ponds`.
--
--     HasPondText pond         both words of the pond have texts
--     share_line shared        the line of the number that words share an orbit by, with the line feed; `none` for no number
--     leap_text pond           the first word of the pond and its steps
--     pond_text pond           the same and the word that they lead to
--     later_pond_text pond     a pond that isn't the first: `;` and its text
--     ponds_text ponds         the ponds, joined by `;`; `none` for no pond
use Rattle.std.specs.Prelude.{ℕ, ℤ, List, [], ◌∷◌, ◌++◌, Option, None, Some, codes, decimal}
use Rattle.std.specs.Fmt.{signed_decimal}
use Rattle.std.specs.List.{flat_map}
use Rattle.ht_types.specs.declared.sharing.Pond.{Pond}
use Rattle.ht_text.specs.Texts.{HasText, word_text}

pub record HasPondText (pond : Pond) : Type 0 where
  pub from : HasText pond.from
  pub to : HasText pond.to

abbrev pub share_line : Option ℤ → List ℕ
share_line (Some k) = codes "share " ++ signed_decimal k ++ codes "\n"
share_line None = codes "share none\n"

abbrev pub leap_text : Pond → List ℕ
leap_text pond = word_text pond.from ++ codes " " ++ decimal pond.steps

abbrev pub pond_text : Pond → List ℕ
pond_text pond = leap_text pond ++ codes " " ++ word_text pond.to

abbrev pub later_pond_text : Pond → List ℕ
later_pond_text pond = codes ";" ++ pond_text pond

abbrev pub ponds_text : List Pond → List ℕ
ponds_text [] = codes "none"
ponds_text (pond ∷ ponds) = pond_text pond ++ flat_map later_pond_text ponds
