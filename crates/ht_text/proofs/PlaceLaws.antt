-- What follows at a place, one byte on.
use Rattle.std.proofs.Common.{◌≡◌, ◌≢◌, ◌<◌, ◌≤◌, ◌-◌, ◌↔◌, ℕ, List, [], ◌∷◌, ◌++◌, length, refl, sym, ap, ◌∙◌, subst, arith, append-nil}
use Rattle.std.specs.Char.{digit_value}
use Rattle.std.specs.Str.Parse.{AllDigits}
use Rattle.std.proofs.lemmas.Str.Parse.{digit_at}
use Rattle.ht_text.specs.declared.place.Place.{Place}
use Rattle.ht_text.specs.declared.place.Place.TheVariants.{Start, Mark, Root, Point, Letters}
use Rattle.ht_text.specs.declared.place.Spot.{Spot}
use Rattle.ht_text.specs.declared.place.Spot.TheVariants.{From, To}
use Rattle.ht_text.specs.Places.{AreSomeLetterBytes, EndsWord, EndsRoot, CompletesWord, CompletesWith, EndsRow, EndsFromWord, FollowsRows}
use Rattle.ht_text.proofs.Numbers.{value_of_digit}

-- the bytes of digits
pub digit_byte : (b : ℕ) → digit_value b < 10 → (48 ≤ b) × (b ≤ 57)
digit_byte b h = let range = digit_at (b ∷ []) 0 (h, tt) (omega arith) in (range.0, range.1)

-- `digit_byte`, turned
pub byte_digit : (b : ℕ) → 48 ≤ b → b ≤ 57 → digit_value b < 10
byte_digit b low high = let value = value_of_digit b low high in omega arith

-- `root_point`, over the parts
behind_point : (digits tail rest : List ℕ) → AllDigits 10 digits → EndsWord tail → 46 ∷ rest ≡ digits ++ tail → AreSomeLetterBytes rest
behind_point [] [] rest all ends e = absurd (cc)
behind_point [] (b ∷ tail) rest all ends e = let same : tail ≡ rest = cc in subst AreSomeLetterBytes same ends.1
behind_point (d ∷ digits) tail rest all ends e = let same : d ≡ 46 = cc in let range = digit_byte d all.0 in absurd (omega arith)

-- behind the `.` of a root are letters
pub root_point : (room b : ℕ) (rest : List ℕ) → b ≡ 46 → EndsRoot room (b ∷ rest) ↔ AreSomeLetterBytes rest
root_point room b rest point = (
  (λ h. behind_point h.digits h.tail rest h.are_digits h.ends (ap (λ t. t ∷ rest) (sym point) ∙ h.is)),
  (λ h. record { digits = []; few = omega arith; are_digits = tt; tail = b ∷ rest; ends = (point, h); is = refl }),
)

-- a byte other than the `.` is a digit for which there is room
record IsMoreDigits (room b : ℕ) (rest : List ℕ) : Type 0 where
  pub room_left : 1 ≤ room
  pub low : 48 ≤ b
  pub high : b ≤ 57
  pub ends : EndsRoot (room - 1) rest

-- `root_more`, over the parts
more_digits : (room b : ℕ) (digits tail rest : List ℕ) → b ≢ 46 → length digits ≤ room → AllDigits 10 digits → EndsWord tail → b ∷ rest ≡ digits ++ tail → IsMoreDigits room b rest
more_digits room b [] [] rest other few all ends e = absurd (cc)
more_digits room b [] (c ∷ tail) rest other few all ends e = let point : c ≡ 46 = ends.0 in let same : b ≡ 46 = cc in absurd (other same)
more_digits room b (d ∷ digits) tail rest other few all ends e =
    let same : b ≡ d = cc in
    let range = digit_byte d all.0 in
    record {
      room_left = omega arith;
      low = omega arith;
      high = omega arith;
      ends = record { digits = digits; few = omega arith; are_digits = all.1; tail = tail; ends = ends; is = cc };
    }

-- a root goes on with a digit
root_more : (room b : ℕ) (rest : List ℕ) → b ≢ 46 → EndsRoot room (b ∷ rest) → IsMoreDigits room b rest
root_more room b rest other h = more_digits room b h.digits h.tail rest other h.few h.are_digits h.ends h.is

-- behind a digit there is room for one less
pub root_digit : (room b : ℕ) (rest : List ℕ) → 1 ≤ room → 48 ≤ b → b ≤ 57 → EndsRoot room (b ∷ rest) ↔ EndsRoot (room - 1) rest
root_digit room b rest some low high = (
  (λ h. (root_more room b rest (λ e. absurd (omega arith)) h).ends),
  (λ h. record { digits = b ∷ h.digits; few = longer h.digits h.few; are_digits = (byte_digit b low high, h.are_digits); tail = h.tail; ends = h.ends; is = ap (λ t. b ∷ t) h.is }),
)
  where
    longer : (digits : List ℕ) → length digits ≤ room - 1 → length (b ∷ digits) ≤ room
    longer digits few = omega arith

-- another byte is not in a root
pub root_stop : (room b : ℕ) (rest : List ℕ) → b ≢ 46 → ¬ ((1 ≤ room) × (48 ≤ b) × (b ≤ 57)) → ¬ EndsRoot room (b ∷ rest)
root_stop room b rest other none h = let more = root_more room b rest other h in none (more.room_left, more.low, more.high)

-- in a word there is no `>` and no `;`
pub no_mark : (place : Place) (b : ℕ) (rest : List ℕ) → 57 < b → b < 120 → ¬ CompletesWord place (b ∷ rest)
no_mark Start b rest low high h = let is : b ≡ 120 = h.0 in omega arith
no_mark Mark b rest low high h = let is : b ≤ 57 = h.0.1 in omega arith
no_mark (Root room) b rest low high h = let is : b ≤ 57 = (root_more room b rest (λ e. absurd (omega arith)) h).high in omega arith
no_mark Point b rest low high h = let is : b ≤ 57 = h.0.1 in omega arith
no_mark Letters b rest low high h = let is : b ≤ 57 = h.0.1 in omega arith

-- the first byte is behind the word
mark_behind : (Ends : List ℕ → Type 0) (place : Place) (b : ℕ) (word behind rest : List ℕ) → ((t : List ℕ) → ¬ CompletesWord place (b ∷ t)) → CompletesWord place word → Ends behind → b ∷ rest ≡ word ++ behind
    → CompletesWord place [] × Ends (b ∷ rest)
mark_behind Ends place b [] behind rest stop follows ends e = (follows, subst Ends (sym e) ends)
mark_behind Ends place b (c ∷ word) behind rest stop follows ends e = let same : c ≡ b = cc in absurd (stop word (subst (λ t. CompletesWord place (t ∷ word)) same follows))

-- a byte that can't go on with a word ends it, where the word is whole
pub word_ends : (Ends Next : List ℕ → Type 0) (place : Place) (b : ℕ) (rest : List ℕ) → ((t : List ℕ) → ¬ CompletesWord place (b ∷ t)) → CompletesWord place [] → Ends (b ∷ rest) ↔ Next rest
    → CompletesWith Ends place (b ∷ rest) ↔ Next rest
word_ends Ends Next place b rest stop whole step =
    ((λ h. step.0 (mark_behind Ends place b h.word h.behind rest stop h.follows h.ends h.is).1), (λ h. record { word = []; follows = whole; behind = b ∷ rest; ends = step.1 h; is = refl }))

-- and else it can't stand there
pub no_end : (Ends : List ℕ → Type 0) (place : Place) (b : ℕ) (rest : List ℕ) → ((t : List ℕ) → ¬ CompletesWord place (b ∷ t)) → ¬ CompletesWord place [] → ¬ CompletesWith Ends place (b ∷ rest)
no_end Ends place b rest stop part h = part (mark_behind Ends place b h.word h.behind rest stop h.follows h.ends h.is).0

-- a root may end
no_digits : (room : ℕ) → EndsRoot room []
no_digits room = record { digits = []; few = omega arith; are_digits = tt; tail = []; ends = tt; is = refl }

-- each place in a word has a completion
pub word_completion : (place : Place) → (rest : List ℕ) × CompletesWord place rest
word_completion Start = (120 ∷ 49 ∷ [], (refl, ((omega arith, omega arith), no_digits 3)))
word_completion Mark = (49 ∷ [], ((omega arith, omega arith), no_digits 3))
word_completion (Root room) = ([], no_digits room)
word_completion Point = (49 ∷ [], ((omega arith, omega arith), tt))
word_completion Letters = ([], tt)

-- a row is whole where its `to` word is
row_completion : (place : Place) → CompletesWith EndsRow place (word_completion place).0
row_completion place = let whole = word_completion place in record { word = whole.0; follows = whole.1; behind = []; ends = tt; is = sym (append-nil whole.0) }

-- each spot in rows has a completion
pub rows_completion : (spot : Spot) → (rest : List ℕ) × FollowsRows spot rest
rows_completion (To place) = ((word_completion place).0, row_completion place)
rows_completion (From place) =
    let whole = word_completion place in
    (whole.0 ++ 62 ∷ (word_completion Start).0, record { word = whole.0; follows = whole.1; behind = 62 ∷ (word_completion Start).0; ends = (refl, row_completion Start); is = refl })

-- what ends a `from` word isn't nothing
not_ended : (word behind : List ℕ) → EndsFromWord behind → [] ≢ word ++ behind
not_ended word [] ends e = ends
not_ended [] (b ∷ behind) ends e = cc
not_ended (c ∷ word) (b ∷ behind) ends e = cc

-- rows don't end in a `from` word
pub from_unfinished : (place : Place) → ¬ FollowsRows (From place) []
from_unfinished place h = not_ended h.word h.behind h.ends h.is

-- nothing has only nothing at its front
no_bytes : (word behind : List ℕ) → [] ≡ word ++ behind → word ≡ []
no_bytes [] behind e = refl
no_bytes (b ∷ word) behind e = absurd (cc)

-- and end in a `to` word where it may end
pub to_finished : (place : Place) → CompletesWord place [] ↔ FollowsRows (To place) []
to_finished place = (
  (λ h. record { word = []; follows = h; behind = []; ends = tt; is = refl }),
  (λ h. subst (CompletesWord place) (no_bytes h.word h.behind h.is) h.follows),
)
