-- What may follow at a place in a text of a word, or of rows.
--
--     IsLetterByte b            the digit of a letter
--     AreLetterBytes rest       digits of letters
--     AreSomeLetterBytes rest   at least one of them
--     EndsWord rest             nothing, or a `.` and the digits of letters
--     EndsRoot room rest        up to room more digits of a root, and what ends a word
--     EndsMark rest             a root and what ends a word
--     IsRooted rest             an `x`, a root and what ends a word
--     CompletesWord place rest  rest completes a word of which the place is reached
--     CompletesWith Ends place rest  rest completes a word of which the place is reached, and Ends holds of what is behind it
--     EndsRow rest              nothing, or a `;` and rows
--     EndsFromWord rest         a `>`, a `to` word and what ends its row
--     FollowsRows spot rest     rest completes rows of which the spot is reached
use Rattle.std.specs.Prelude.{ℕ, ◌≡◌, ◌≤◌, List, [], ◌∷◌, ◌++◌, length}
use Rattle.std.specs.List.{AllByRecursion}
use Rattle.std.specs.Str.Parse.{AllDigits}
use Rattle.ht_text.specs.Fronts.{IsRowsText}
use Rattle.ht_text.specs.declared.place.Place.{Place}
use Rattle.ht_text.specs.declared.place.Place.TheVariants.{Start, Mark, Root, Point, Letters}
use Rattle.ht_text.specs.declared.place.Spot.{Spot}
use Rattle.ht_text.specs.declared.place.Spot.TheVariants.{From, To}

abbrev pub IsLetterByte : ℕ → Type 0
IsLetterByte b = (49 ≤ b) × (b ≤ 57)

abbrev pub AreLetterBytes : List ℕ → Type 0
AreLetterBytes rest = AllByRecursion IsLetterByte rest

abbrev pub AreSomeLetterBytes : List ℕ → Type 0
AreSomeLetterBytes [] = ⊥
AreSomeLetterBytes (b ∷ rest) = IsLetterByte b × AreLetterBytes rest

abbrev pub EndsWord : List ℕ → Type 0
EndsWord [] = Unit {0}
EndsWord (b ∷ rest) = (b ≡ 46) × AreSomeLetterBytes rest

pub record EndsRoot (room : ℕ) (rest : List ℕ) : Type 0 where
  pub digits : List ℕ
  pub few : length digits ≤ room
  pub are_digits : AllDigits 10 digits
  pub tail : List ℕ
  pub ends : EndsWord tail
  pub is : rest ≡ digits ++ tail

abbrev pub EndsMark : List ℕ → Type 0
EndsMark [] = ⊥
EndsMark (b ∷ rest) = IsLetterByte b × EndsRoot 3 rest

abbrev pub IsRooted : List ℕ → Type 0
IsRooted [] = ⊥
IsRooted (b ∷ rest) = (b ≡ 120) × EndsMark rest

abbrev pub CompletesWord : Place → List ℕ → Type 0
CompletesWord Start rest = IsRooted rest
CompletesWord Mark rest = EndsMark rest
CompletesWord (Root room) rest = EndsRoot room rest
CompletesWord Point rest = AreSomeLetterBytes rest
CompletesWord Letters rest = AreLetterBytes rest

pub record CompletesWith (Ends : List ℕ → Type 0) (place : Place) (rest : List ℕ) : Type 0 where
  pub word : List ℕ
  pub follows : CompletesWord place word
  pub behind : List ℕ
  pub ends : Ends behind
  pub is : rest ≡ word ++ behind

abbrev pub EndsRow : List ℕ → Type 0
EndsRow [] = Unit {0}
EndsRow (b ∷ rest) = (b ≡ 59) × IsRowsText rest

abbrev pub EndsFromWord : List ℕ → Type 0
EndsFromWord [] = ⊥
EndsFromWord (b ∷ rest) = (b ≡ 62) × CompletesWith EndsRow Start rest

abbrev pub FollowsRows : Spot → List ℕ → Type 0
FollowsRows (From place) rest = CompletesWith EndsFromWord place rest
FollowsRows (To place) rest = CompletesWith EndsRow place rest
