-- The commands, and what stands behind the word of each.
--
--     keyword command               the command's word
--     slots_of command              what its further tokens are
--     ending_of command             what stands behind these
--     IsSlot slot token             the token fits the slot
--     IsOfEnding ending bytes       the bytes are of the ending: spaces alone, rows, or rows or factors
--     FitsSlots ending slots bytes  a token for each slot, with spaces before each, and behind the last what the ending says
--     IsTaken command bytes         the bytes may stand behind the command's word
--     Completes command line bytes  the command's word and the bytes behind it make the line
--     HasOneName command            one name is all that stands behind the command's word
--     Reads command bytes found     the line found is the one that they make; none, where they make none
--     IsKeyword token               the token is the word of some command
--     IsUnmarked bytes              the first byte that isn't a space isn't `#`
use Rattle.std.specs.Prelude.{◌≡◌, ◌⊎◌, ℕ, List, [], ◌∷◌, codes, Option, MatchOption}
use Rattle.ht_text.specs.Fronts.{IsNumText, IsWordText, IsRowsText}
use Rattle.ht_script.specs.declared.command.Command.{Command}
use Rattle.ht_script.specs.declared.command.Command.TheVariants as command
use Rattle.ht_script.specs.declared.command.Slot.{Slot}
use Rattle.ht_script.specs.declared.command.Slot.TheVariants.{Number, Name, Equals, Word, File}
use Rattle.ht_script.specs.declared.ending.Ending.{Ending}
use Rattle.ht_script.specs.declared.ending.Ending.TheVariants as ending
use Rattle.ht_script.specs.declared.line.Line.{Line}
use Rattle.ht_script.specs.declared.line.Line.TheVariants.{Group, Reduce, LetRows, LetProduct, Show, Equal, Image, Load, Basis, Order, Types, Profile, Parts, Conj, Ponds, Share, Power}
use Rattle.ht_script.specs.Tokens.{IsSpaces, Is, ◌▸◌}
use Rattle.ht_script.specs.Names.{IsName, IsFileName}
use Rattle.ht_script.specs.Factors.{AreFactors, AreFactorsText}
use Rattle.ht_script.specs.Lines.{IsCommentText, IsNumber, AreRows, IsNamed, IsWritten, IsFileNamed}

abbrev pub keyword : Command → List ℕ
keyword command.Group = codes "group"
keyword command.Reduce = codes "reduce"
keyword command.Let = codes "let"
keyword command.Show = codes "show"
keyword command.Equal = codes "equal"
keyword command.Image = codes "image"
keyword command.Load = codes "load"
keyword command.Basis = codes "basis"
keyword command.Order = codes "order"
keyword command.Types = codes "types"
keyword command.Profile = codes "profile"
keyword command.Parts = codes "parts"
keyword command.Conj = codes "conj"
keyword command.Ponds = codes "ponds"
keyword command.Share = codes "share"
keyword command.Power = codes "power"

abbrev pub slots_of : Command → List Slot
slots_of command.Group = Number ∷ Number ∷ []
slots_of command.Reduce = []
slots_of command.Let = Name ∷ Equals ∷ []
slots_of command.Show = Name ∷ []
slots_of command.Equal = Name ∷ Name ∷ []
slots_of command.Image = Name ∷ Word ∷ []
slots_of command.Load = Name ∷ File ∷ []
slots_of command.Basis = Name ∷ []
slots_of command.Order = Name ∷ []
slots_of command.Types = Name ∷ []
slots_of command.Profile = Name ∷ []
slots_of command.Parts = Name ∷ Name ∷ Name ∷ []
slots_of command.Conj = Name ∷ Name ∷ Name ∷ []
slots_of command.Ponds = Name ∷ []
slots_of command.Share = Name ∷ Word ∷ Word ∷ []
slots_of command.Power = Name ∷ Name ∷ []

abbrev pub ending_of : Command → Ending
ending_of command.Group = ending.Spaces
ending_of command.Reduce = ending.Rows
ending_of command.Let = ending.Value
ending_of command.Show = ending.Spaces
ending_of command.Equal = ending.Spaces
ending_of command.Image = ending.Spaces
ending_of command.Load = ending.Spaces
ending_of command.Basis = ending.Spaces
ending_of command.Order = ending.Spaces
ending_of command.Types = ending.Spaces
ending_of command.Profile = ending.Spaces
ending_of command.Parts = ending.Spaces
ending_of command.Conj = ending.Spaces
ending_of command.Ponds = ending.Spaces
ending_of command.Share = ending.Spaces
ending_of command.Power = ending.Spaces

abbrev pub IsSlot : Slot → List ℕ → Type 0
IsSlot Number token = IsNumText token
IsSlot Name token = IsName token
IsSlot Equals token = Is (codes "=") token
IsSlot Word token = IsWordText token
IsSlot File token = IsFileName token

abbrev pub IsOfEnding : Ending → List ℕ → Type 0
IsOfEnding ending.Spaces bytes = IsSpaces bytes
IsOfEnding ending.Rows bytes = (IsRowsText ▸ IsSpaces) bytes
IsOfEnding ending.Value bytes = (IsRowsText ▸ IsSpaces) bytes ⊎ AreFactorsText bytes

abbrev pub FitsSlots : Ending → List Slot → List ℕ → Type 0
FitsSlots ending [] bytes = IsOfEnding ending bytes
FitsSlots ending (slot ∷ slots) bytes = (IsSlot slot ▸ FitsSlots ending slots) bytes

abbrev pub IsTaken : Command → List ℕ → Type 0
IsTaken command bytes = FitsSlots (ending_of command) (slots_of command) bytes

abbrev pub Completes : Command → Line → List ℕ → Type 0
Completes command.Group (Group n r) bytes = (IsNumber n ▸ IsNumber r ▸ IsSpaces) bytes
Completes command.Reduce (Reduce rows) bytes = (AreRows rows ▸ IsSpaces) bytes
Completes command.Let (LetRows name rows) bytes = (IsNamed name ▸ Is (codes "=") ▸ AreRows rows ▸ IsSpaces) bytes
Completes command.Let (LetProduct name factors) bytes = (IsNamed name ▸ Is (codes "=") ▸ AreFactors factors) bytes
Completes command.Show (Show name) bytes = (IsNamed name ▸ IsSpaces) bytes
Completes command.Equal (Equal first second) bytes = (IsNamed first ▸ IsNamed second ▸ IsSpaces) bytes
Completes command.Image (Image name word) bytes = (IsNamed name ▸ IsWritten word ▸ IsSpaces) bytes
Completes command.Load (Load name file) bytes = (IsNamed name ▸ IsFileNamed file ▸ IsSpaces) bytes
Completes command.Basis (Basis name) bytes = (IsNamed name ▸ IsSpaces) bytes
Completes command.Order (Order name) bytes = (IsNamed name ▸ IsSpaces) bytes
Completes command.Types (Types name) bytes = (IsNamed name ▸ IsSpaces) bytes
Completes command.Profile (Profile name) bytes = (IsNamed name ▸ IsSpaces) bytes
Completes command.Parts (Parts periodic infinite whole) bytes = (IsNamed periodic ▸ IsNamed infinite ▸ IsNamed whole ▸ IsSpaces) bytes
Completes command.Conj (Conj bound first second) bytes = (IsNamed bound ▸ IsNamed first ▸ IsNamed second ▸ IsSpaces) bytes
Completes command.Ponds (Ponds name) bytes = (IsNamed name ▸ IsSpaces) bytes
Completes command.Share (Share name first second) bytes = (IsNamed name ▸ IsWritten first ▸ IsWritten second ▸ IsSpaces) bytes
Completes command.Power (Power first second) bytes = (IsNamed first ▸ IsNamed second ▸ IsSpaces) bytes
Completes _ _ bytes = ⊥

abbrev pub HasOneName : Command → Type 0
HasOneName command = (slots_of command ≡ Name ∷ []) × (ending_of command ≡ ending.Spaces)

abbrev pub Reads : Command → List ℕ → Option Line → Type 0
Reads command bytes found = MatchOption found (¬ IsTaken command bytes) (λ line. Completes command line bytes)

abbrev pub IsKeyword : List ℕ → Type 0
IsKeyword token = (command : Command) × (token ≡ keyword command)

abbrev pub IsUnmarked : List ℕ → Type 0
IsUnmarked bytes = (text : List ℕ) → ¬ IsCommentText bytes text
