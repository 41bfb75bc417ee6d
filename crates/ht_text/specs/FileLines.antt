-- The lines of a file, and how far bytes go as one.
--
--     head_line                    the first line
--     group_line n r               the second
--     count_line k                 the third
--     end_line                     the last
--     file_lines n r rows          all lines of a file
--     head_text n r k              the first three lines, with their line feeds
--     IsGroupFront bytes n r rest  the bytes are a second line and rest
--     IsCountFront bytes k rest    the bytes are a third line and rest
--     IsFileHead bytes n r k rest  the bytes are three lines of a file and rest
--     IsRowFront bytes row rest    the bytes are the line of a row and rest
--     IsNoEnd rest                 rest doesn't begin with a whole last line, and isn't one without its line feed
--     HasBehindEnd rest            rest is a whole last line and some bytes behind it
--     IsEnding rest ending         rest is the end of a file, no end, or an end with more behind it
--     LeadsNoFurther bytes k       the bytes are no file, and k is the greatest number of leading whole lines that lead some file
--     IsLinesFault bytes fault     what a fault says of the bytes, whatever their number; want of memory says nothing
use Rattle.std.specs.Prelude.{◌≡◌, ◌≢◌, ℕ, zero, suc, ◌<◌, ◌≤◌, ◌^◌, ◌⊎◌, List, [], ◌∷◌, ◌++◌, ⊤, length, codes, decimal, map}
use Rattle.ht_pair.specs.declared.row.Row.{Row}
use Rattle.ht_text.specs.Texts.{HasRowText, row_text}
use Rattle.ht_text.specs.Files.{IsFileText, LeadsFile}
use Rattle.ht_text.specs.declared.fault.FileFault.{FileFault}
use Rattle.ht_text.specs.declared.fault.FileFault.TheVariants.{Form, Shape, Rows, NoMemory}
use Rattle.ht_text.specs.declared.lines.Ending.{Ending}
use Rattle.ht_text.specs.declared.lines.Ending.TheVariants.{Whole, Missing, Behind}

abbrev pub head_line : List ℕ
head_line = codes "ht-element 1"

abbrev pub group_line : ℕ → ℕ → List ℕ
group_line n r = codes "group " ++ decimal n ++ codes " " ++ decimal r

abbrev pub count_line : ℕ → List ℕ
count_line k = codes "rows " ++ decimal k

abbrev pub end_line : List ℕ
end_line = codes "end"

abbrev pub file_lines : ℕ → ℕ → List Row → List (List ℕ)
file_lines n r rows = head_line ∷ group_line n r ∷ count_line (length rows) ∷ map row_text rows ++ end_line ∷ []

abbrev pub head_text : ℕ → ℕ → ℕ → List ℕ
head_text n r k = codes "ht-element 1\ngroup " ++ decimal n ++ codes " " ++ decimal r ++ codes "\nrows " ++ decimal k ++ codes "\n"

pub record IsGroupFront (bytes : List ℕ) (n r : ℕ) (rest : List ℕ) : Type 0 where
  pub n_small : n < 10 ^ 4
  pub r_small : r < 10 ^ 4
  pub is : bytes ≡ group_line n r ++ 10 ∷ rest

pub record IsCountFront (bytes : List ℕ) (k : ℕ) (rest : List ℕ) : Type 0 where
  pub some : 1 ≤ k
  pub few : k < 10 ^ 6
  pub is : bytes ≡ count_line k ++ 10 ∷ rest

pub record IsFileHead (bytes : List ℕ) (n r k : ℕ) (rest : List ℕ) : Type 0 where
  pub n_small : n < 10 ^ 4
  pub r_small : r < 10 ^ 4
  pub some : 1 ≤ k
  pub few : k < 10 ^ 6
  pub is : bytes ≡ (head_line ++ codes "\n") ++ ((group_line n r ++ codes "\n") ++ ((count_line k ++ codes "\n") ++ rest))

pub record IsRowFront (bytes : List ℕ) (row : Row) (rest : List ℕ) : Type 0 where
  pub has_text : HasRowText row
  pub is : bytes ≡ row_text row ++ 10 ∷ rest

pub record IsNoEnd (rest : List ℕ) : Type 0 where
  pub not_bare : rest ≢ end_line
  pub not_ended : (behind : List ℕ) → rest ≢ end_line ++ 10 ∷ behind

pub record HasBehindEnd (rest : List ℕ) : Type 0 where
  pub behind : List ℕ
  pub is : rest ≡ end_line ++ 10 ∷ behind
  pub some : behind ≢ []

abbrev pub IsEnding : List ℕ → Ending → Type 0
IsEnding rest Whole = (rest ≡ end_line) ⊎ (rest ≡ end_line ++ 10 ∷ [])
IsEnding rest Missing = IsNoEnd rest
IsEnding rest Behind = HasBehindEnd rest

pub record LeadsNoFurther (bytes : List ℕ) (k : ℕ) : Type 0 where
  pub no_file : ¬ IsFileText bytes
  pub leads : LeadsFile bytes k
  pub greatest : (j : ℕ) → LeadsFile bytes j → j ≤ k

abbrev pub IsLinesFault : List ℕ → FileFault → Type 0
IsLinesFault bytes (Form zero) = ⊥
IsLinesFault bytes (Form (suc k)) = LeadsNoFurther bytes k
IsLinesFault bytes Shape = ⊥
IsLinesFault bytes (Rows why) = ⊥
IsLinesFault bytes NoMemory = ⊤
