-- The grammar of a line: which lines there are, each with the value that it has.
--
--     IsCommentText bytes text  spaces, a `#` and the text behind it
--     IsComment bytes        spaces, a `#` and anything but a line feed
--     IsNumber n token       the token is the number n
--     AreRows rows token     the token is the rows
--     IsNamed name token     the token is the name
--     IsWritten word token   the token is the word
--     IsFileNamed file token the token is the name of the file
--     IsLine bytes line      the bytes are the text of the line
--     IsNoLine bytes         the bytes are the text of no line
--     IsLineText bytes       the bytes are the text of some line
use Rattle.std.specs.Prelude.{◌≡◌, ◌≢◌, ◌⊎◌, ℕ, List, ◌∷◌, ◌++◌, All, codes}
use Rattle.ht_word.specs.declared.word.Word.{Word}
use Rattle.ht_pair.specs.declared.row.Row.{Row}
use Rattle.ht_text.specs.Texts.{IsNum, IsWord, IsRows}
use Rattle.ht_script.specs.declared.line.Line.{Line}
use Rattle.ht_script.specs.declared.line.Line.TheVariants.{Blank, Group, Reduce, LetRows, LetProduct, Show, Equal, Image, Load, Basis, Order, Types, Profile, Parts, Conj, Ponds, Share, Power}
use Rattle.ht_script.specs.Tokens.{IsSpaces, Is, ◌▸◌}
use Rattle.ht_script.specs.Names.{IsName, IsFileName}
use Rattle.ht_script.specs.Factors.{AreFactors}

pub record IsCommentText (bytes text : List ℕ) : Type 0 where
  pub before : List ℕ
  pub spaces : IsSpaces before
  pub is : bytes ≡ before ++ 35 ∷ text

pub record IsComment (bytes : List ℕ) : Type 0 where
  pub text : List ℕ
  pub marked : IsCommentText bytes text
  pub one_line : All (λ b. b ≢ 10) text

abbrev pub IsNumber : ℕ → List ℕ → Type 0
IsNumber n token = IsNum token n

abbrev pub AreRows : List Row → List ℕ → Type 0
AreRows rows token = IsRows token rows

abbrev pub IsNamed : List ℕ → List ℕ → Type 0
IsNamed name token = IsName token × (token ≡ name)

abbrev pub IsWritten : Word → List ℕ → Type 0
IsWritten word token = IsWord token word

abbrev pub IsFileNamed : List ℕ → List ℕ → Type 0
IsFileNamed file token = IsFileName token × (token ≡ file)

abbrev pub IsLine : List ℕ → Line → Type 0
IsLine bytes Blank = IsSpaces bytes ⊎ IsComment bytes
IsLine bytes (Group n r) = (Is (codes "group") ▸ IsNumber n ▸ IsNumber r ▸ IsSpaces) bytes
IsLine bytes (Reduce rows) = (Is (codes "reduce") ▸ AreRows rows ▸ IsSpaces) bytes
IsLine bytes (LetRows name rows) = (Is (codes "let") ▸ IsNamed name ▸ Is (codes "=") ▸ AreRows rows ▸ IsSpaces) bytes
IsLine bytes (LetProduct name factors) = (Is (codes "let") ▸ IsNamed name ▸ Is (codes "=") ▸ AreFactors factors) bytes
IsLine bytes (Show name) = (Is (codes "show") ▸ IsNamed name ▸ IsSpaces) bytes
IsLine bytes (Equal first second) = (Is (codes "equal") ▸ IsNamed first ▸ IsNamed second ▸ IsSpaces) bytes
IsLine bytes (Image name word) = (Is (codes "image") ▸ IsNamed name ▸ IsWritten word ▸ IsSpaces) bytes
IsLine bytes (Load name file) = (Is (codes "load") ▸ IsNamed name ▸ IsFileNamed file ▸ IsSpaces) bytes
IsLine bytes (Basis name) = (Is (codes "basis") ▸ IsNamed name ▸ IsSpaces) bytes
IsLine bytes (Order name) = (Is (codes "order") ▸ IsNamed name ▸ IsSpaces) bytes
IsLine bytes (Types name) = (Is (codes "types") ▸ IsNamed name ▸ IsSpaces) bytes
IsLine bytes (Profile name) = (Is (codes "profile") ▸ IsNamed name ▸ IsSpaces) bytes
IsLine bytes (Parts periodic infinite whole) = (Is (codes "parts") ▸ IsNamed periodic ▸ IsNamed infinite ▸ IsNamed whole ▸ IsSpaces) bytes
IsLine bytes (Conj bound first second) = (Is (codes "conj") ▸ IsNamed bound ▸ IsNamed first ▸ IsNamed second ▸ IsSpaces) bytes
IsLine bytes (Ponds name) = (Is (codes "ponds") ▸ IsNamed name ▸ IsSpaces) bytes
IsLine bytes (Share name first second) = (Is (codes "share") ▸ IsNamed name ▸ IsWritten first ▸ IsWritten second ▸ IsSpaces) bytes
IsLine bytes (Power first second) = (Is (codes "power") ▸ IsNamed first ▸ IsNamed second ▸ IsSpaces) bytes

abbrev pub IsNoLine : List ℕ → Type 0
IsNoLine bytes = (line : Line) → ¬ IsLine bytes line

abbrev pub IsLineText : List ℕ → Type 0
IsLineText bytes = (line : Line) × IsLine bytes line
