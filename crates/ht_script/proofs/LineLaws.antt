-- Lines by the word that they begin with.
use Rattle.std.proofs.Common.{◌≡◌, ◌≢◌, ◌<◌, ◌≤◌, ◌+◌, ◌-◌, ℕ, ◌⊎◌, inl, inr, List, [], ◌∷◌, ◌++◌, length, map, take, drop, All, Option, Some, None, MatchOption, Result, Ok, Err, IfOk, Bor, refl, sym, ap, ◌∙◌, subst, subst₂, arith, append_assoc, append-nil, length-append, take-append-drop}
use Rattle.std.specs.Prelude.{codes}
use Rattle.std.specs.List.{AllByRecursion}
use Rattle.std.proofs.lemmas.Bool.{cases_lt}
use Rattle.std.proofs.lemmas.List.{drop_more, take_all, nil_from_length, length-take-le}
use Rattle.std.proofs.lemmas.List.Elements.{recursion_from_All, All-from_recursion}
use Rattle.ht_word.specs.declared.word.Word.{Word}
use Rattle.ht_pair.specs.declared.row.Row.{Row}
use Rattle.ht_text.specs.Fronts.{IsFront, IsLongestFront, IsWordText, IsRowsText}
use Rattle.ht_script.specs.declared.command.Command.{Command}
use Rattle.ht_script.specs.declared.command.Command.TheVariants as command
use Rattle.ht_script.specs.declared.command.Slot.TheVariants.{Name}
use Rattle.ht_script.specs.declared.line.Line.{Line}
use Rattle.ht_script.specs.declared.line.Line.TheVariants.{Blank, Group, Reduce, LetRows, LetProduct, Show, Equal, Image, Load, Basis, Order, Types, Profile, Parts, Conj, Ponds, Share, Power}
use Rattle.ht_script.specs.declared.ending.Ending.TheVariants as ending
use Rattle.ht_script.specs.Tokens.{◌▸◌, Is, IsSpaces, IsToken, IsSpaced, IsSpan, IsFirstToken}
use Rattle.ht_script.specs.Lines.{IsCommentText, IsComment, IsNumber, AreRows, IsNamed, IsWritten, IsFileNamed, IsLine, IsNoLine, IsLineText}
use Rattle.ht_script.specs.Slots.{keyword, slots_of, ending_of, IsOfEnding, FitsSlots, IsTaken, Completes, HasOneName, Reads, IsKeyword, IsUnmarked}
use Rattle.ht_script.specs.Names.{IsName, IsFileName}
use Rattle.ht_script.specs.Factors.{AreFactors}
use Rattle.ht_script.proofs.TokenLaws.{spaces_left, AreTokens, BeginsToken, begins, strip, not_spaces, refit, first_fits, both}
use Rattle.ht_script.proofs.GrammarLaws.{name_token, equals_token}
use Rattle.ht_script.proofs.FrontLaws.{front_map, moved, longest_whole, longest_behind, longest_span, longest_same}
use Rattle.ht_script.proofs.SpacedFronts.{Fits, TakesSpace, spaces_front, longest_in_token, longest_past_token}
use Rattle.ht_script.proofs.CommandLaws.{some_behind, space_before, keyword_token, same_command, no_mark}

-- the word of a command, and behind it what its slots take
pub record CommandFits (token rest : List ℕ) : Type 0 where
  pub of : Command
  pub word : token ≡ keyword of
  pub behind : IsTaken of rest

abbrev pub IsCommandText : List ℕ → Type 0
IsCommandText bytes = IsSpaced CommandFits bytes

pub command_tokens : AreTokens CommandFits
command_tokens = λ t r h. subst IsToken (sym h.word) (keyword_token h.of)

pub command_takes_space : TakesSpace CommandFits
command_takes_space = λ t r h. record { of = h.of; word = h.word; behind = space_before (ending_of h.of) (slots_of h.of) r h.behind }

pub word_fits : (t : List ℕ) → IsKeyword t → Fits CommandFits t
word_fits t h = let rest = some_behind (ending_of h.0) (slots_of h.0) in (rest.0, record { of = h.0; word = h.1; behind = rest.1 })

pub fits_word : (t : List ℕ) → Fits CommandFits t → IsKeyword t
fits_word t h = (h.1.of, h.1.word)

-- what stands behind each word, with its values
pub group_behind : (rest : List ℕ) → IsTaken command.Group rest → (n : ℕ) × (r : ℕ) × (IsNumber n ▸ IsNumber r ▸ IsSpaces) rest
group_behind rest b =
    let n = b.fits.0 in
    let r = b.fits.1.fits.0 in
    (n.0, r.0, refit _ (λ t u. IsNumber n.0 t × (IsNumber r.0 ▸ IsSpaces) u) rest b (n.1, refit _ (λ t u. IsNumber r.0 t × IsSpaces u) b.rest b.fits.1 (r.1, b.fits.1.fits.1)))

pub rows_behind : (rest : List ℕ) → (IsRowsText ▸ IsSpaces) rest → (rows : List Row) × (AreRows rows ▸ IsSpaces) rest
rows_behind rest b = let rows = b.fits.0 in (rows.0, refit _ (λ t u. AreRows rows.0 t × IsSpaces u) rest b (rows.1, b.fits.1))

-- a name and behind it what R holds of
pub first_named : (R : List ℕ → Type 0) (bytes : List ℕ) → (IsName ▸ R) bytes → (name : List ℕ) × (rest : List ℕ) × (IsNamed name ▸ Is rest) bytes × R rest
first_named R bytes b = (b.token, b.rest, refit _ (λ t u. IsNamed b.token t × Is b.rest u) bytes b ((b.fits.0, refl), refl), b.fits.1)

-- a name that is known is some name
pub some_named : (name : List ℕ) (R : List ℕ → Type 0) (bytes : List ℕ) → (IsNamed name ▸ R) bytes → (IsName ▸ R) bytes
some_named name R bytes b = refit _ (λ t u. IsName t × R u) bytes b (b.fits.0.0, b.fits.1)

-- and R holds of it however it was found
pub behind_first_name : (R : List ℕ → Type 0) (name rest bytes : List ℕ) → (IsNamed name ▸ Is rest) bytes → (IsName ▸ R) bytes → R rest
behind_first_name R name rest bytes g h =
    let names = both (IsNamed name) (Is rest) IsName R bytes (λ t k. name_token t k.0) name_token g h in
    subst R names.behind_first names.behind_second

pub word_behind : (rest : List ℕ) → (IsWordText ▸ IsSpaces) rest → (word : Word) × (IsWritten word ▸ IsSpaces) rest
word_behind rest b = let word = b.fits.0 in (word.0, refit _ (λ t u. IsWritten word.0 t × IsSpaces u) rest b (word.1, b.fits.1))

pub two_words_behind : (rest : List ℕ) → (IsWordText ▸ IsWordText ▸ IsSpaces) rest → (first : Word) × (second : Word) × (IsWritten first ▸ IsWritten second ▸ IsSpaces) rest
two_words_behind rest b =
    let first = b.fits.0 in
    let last = word_behind b.rest b.fits.1 in
    (first.0, last.0, refit _ (λ t u. IsWritten first.0 t × (IsWritten last.0 ▸ IsSpaces) u) rest b (first.1, last.1))

pub file_behind : (rest : List ℕ) → (IsFileName ▸ IsSpaces) rest → (file : List ℕ) × (IsFileNamed file ▸ IsSpaces) rest
file_behind rest b = (b.token, refit _ (λ t u. IsFileNamed b.token t × IsSpaces u) rest b ((b.fits.0, refl), b.fits.1))

-- a name, and behind it a value that can be read from what R holds of
named_with : {X : Type 0} (R : List ℕ → Type 0) (V : X → List ℕ → Type 0) → ((rest : List ℕ) → R rest → (x : X) × V x rest) → (bytes : List ℕ) → (IsName ▸ R) bytes
    → (name : List ℕ) × (x : X) × (IsNamed name ▸ V x) bytes
named_with R V read bytes b = let v = read b.rest b.fits.1 in (b.token, v.0, refit _ (λ t u. IsNamed b.token t × V v.0 u) bytes b ((b.fits.0, refl), v.1))

pub name_behind : (rest : List ℕ) → (IsName ▸ IsSpaces) rest → (name : List ℕ) × (IsNamed name ▸ IsSpaces) rest
name_behind rest b = (b.token, refit _ (λ t u. IsNamed b.token t × IsSpaces u) rest b ((b.fits.0, refl), b.fits.1))

pub one_name_behind : (c : Command) (rest : List ℕ) → HasOneName c → IsTaken c rest → (name : List ℕ) × (IsNamed name ▸ IsSpaces) rest
one_name_behind c rest one b = name_behind rest (subst₂ (λ e slots. FitsSlots e slots rest) one.1 one.0 b)

pub two_names_behind : (rest : List ℕ) → (IsName ▸ IsName ▸ IsSpaces) rest → (first : List ℕ) × (second : List ℕ) × (IsNamed first ▸ IsNamed second ▸ IsSpaces) rest
two_names_behind rest b = named_with (IsName ▸ IsSpaces) (λ name. IsNamed name ▸ IsSpaces) name_behind rest b

pub three_names_behind : (rest : List ℕ) → (IsName ▸ IsName ▸ IsName ▸ IsSpaces) rest → (first : List ℕ) × (others : List ℕ × List ℕ) × (IsNamed first ▸ IsNamed others.0 ▸ IsNamed others.1 ▸ IsSpaces) rest
three_names_behind rest b =
    named_with (IsName ▸ IsName ▸ IsSpaces) (λ (names : List ℕ × List ℕ). IsNamed names.0 ▸ IsNamed names.1 ▸ IsSpaces) (λ r h. let v = two_names_behind r h in ((v.0, v.1), v.2)) rest b

-- a name, `=` and behind it what R holds of
pub named_behind : (R : List ℕ → Type 0) (bytes : List ℕ) → (IsName ▸ Is (codes "=") ▸ R) bytes → (name : List ℕ) × (rest : List ℕ) × (IsNamed name ▸ Is (codes "=") ▸ Is rest) bytes × R rest
named_behind R bytes b = (
  b.token,
  b.fits.1.rest,
  refit _ (λ t u. IsNamed b.token t × (Is (codes "=") ▸ Is b.fits.1.rest) u) bytes b
      ((b.fits.0, refl), refit _ (λ t u. Is (codes "=") t × Is b.fits.1.rest u) b.rest b.fits.1 (b.fits.1.fits.0, refl)),
  b.fits.1.fits.1,
)

pub with_behind : (R : List ℕ → Type 0) (name rest bytes : List ℕ) → (IsNamed name ▸ Is (codes "=") ▸ Is rest) bytes → R rest → (IsNamed name ▸ Is (codes "=") ▸ R) bytes
with_behind R name rest bytes b h =
    refit _ (λ t u. IsNamed name t × (Is (codes "=") ▸ R) u) bytes b (b.fits.0, refit _ (λ t u. Is (codes "=") t × R u) b.rest b.fits.1 (b.fits.1.fits.0, subst R (sym b.fits.1.fits.1) h))

-- and R holds of it however it was found
pub behind_equals : (R : List ℕ → Type 0) (name rest bytes : List ℕ) → (IsNamed name ▸ Is (codes "=") ▸ Is rest) bytes → (IsName ▸ Is (codes "=") ▸ R) bytes → R rest
behind_equals R name rest bytes g h =
    let names = both (IsNamed name) (Is (codes "=") ▸ Is rest) IsName (Is (codes "=") ▸ R) bytes (λ t k. name_token t k.0) name_token g h in
    let equals = both (Is (codes "=")) (Is rest) (Is (codes "=")) R names.rest equals_token equals_token names.behind_first names.behind_second in
    subst R equals.behind_first equals.behind_second

let_behind : (rest : List ℕ) → IsTaken command.Let rest → (line : Line) × Completes command.Let line rest
let_behind rest b =
    let v = named_behind (IsOfEnding ending.Value) rest b in
    elim v.3 [
      | inl rows ↦ (let last = rows_behind v.1 rows in (LetRows v.0 last.0, with_behind (AreRows last.0 ▸ IsSpaces) v.0 v.1 rest v.2 last.1))
      | inr factors ↦ (LetProduct v.0 factors.0, with_behind (AreFactors factors.0) v.0 v.1 rest v.2 factors.1)
    ]

-- a command and what may stand behind its word make some line
pub taken_line : (c : Command) (rest : List ℕ) → IsTaken c rest → (line : Line) × Completes c line rest
taken_line command.Group rest b = let v = group_behind rest b in (Group v.0 v.1, v.2)
taken_line command.Reduce rest b = let v = rows_behind rest b in (Reduce v.0, v.1)
taken_line command.Let rest b = let_behind rest b
taken_line command.Show rest b = let v = name_behind rest b in (Show v.0, v.1)
taken_line command.Equal rest b = let v = two_names_behind rest b in (Equal v.0 v.1, v.2)
taken_line command.Image rest b = let v = named_with (IsWordText ▸ IsSpaces) (λ word. IsWritten word ▸ IsSpaces) word_behind rest b in (Image v.0 v.1, v.2)
taken_line command.Load rest b = let v = named_with (IsFileName ▸ IsSpaces) (λ file. IsFileNamed file ▸ IsSpaces) file_behind rest b in (Load v.0 v.1, v.2)
taken_line command.Basis rest b = let v = name_behind rest b in (Basis v.0, v.1)
taken_line command.Order rest b = let v = name_behind rest b in (Order v.0, v.1)
taken_line command.Types rest b = let v = name_behind rest b in (Types v.0, v.1)
taken_line command.Profile rest b = let v = name_behind rest b in (Profile v.0, v.1)
taken_line command.Parts rest b = let v = three_names_behind rest b in (Parts v.0 v.1.0 v.1.1, v.2)
taken_line command.Conj rest b = let v = three_names_behind rest b in (Conj v.0 v.1.0 v.1.1, v.2)
taken_line command.Ponds rest b = let v = name_behind rest b in (Ponds v.0, v.1)
taken_line command.Share rest b =
    let v = named_with (IsWordText ▸ IsWordText ▸ IsSpaces) (λ (words : Word × Word). IsWritten words.0 ▸ IsWritten words.1 ▸ IsSpaces) (λ r h. let w = two_words_behind r h in ((w.0, w.1), w.2)) rest b in (Share v.0 v.1.0 v.1.1, v.2)
taken_line command.Power rest b = let v = two_names_behind rest b in (Power v.0 v.1, v.2)

-- bytes of the command's word, and of what makes a line behind it, are the text of the line
pub completed : (F : List ℕ → List ℕ → Type 0) (bytes : List ℕ) (s : IsSpaced F bytes) (c : Command) (line : Line) → s.token ≡ keyword c → Completes c line s.rest → IsLine bytes line
completed F bytes s command.Group (Group n r) word h = refit F _ bytes s (word, h)
completed F bytes s command.Reduce (Reduce rows) word h = refit F _ bytes s (word, h)
completed F bytes s command.Let (LetRows name rows) word h = refit F _ bytes s (word, h)
completed F bytes s command.Let (LetProduct name factors) word h = refit F _ bytes s (word, h)
completed F bytes s command.Show (Show name) word h = refit F _ bytes s (word, h)
completed F bytes s command.Equal (Equal first second) word h = refit F _ bytes s (word, h)
completed F bytes s command.Image (Image name w) word h = refit F _ bytes s (word, h)
completed F bytes s command.Load (Load name file) word h = refit F _ bytes s (word, h)
completed F bytes s command.Basis (Basis name) word h = refit F _ bytes s (word, h)
completed F bytes s command.Order (Order name) word h = refit F _ bytes s (word, h)
completed F bytes s command.Types (Types name) word h = refit F _ bytes s (word, h)
completed F bytes s command.Profile (Profile name) word h = refit F _ bytes s (word, h)
completed F bytes s command.Parts (Parts periodic infinite whole) word h = refit F _ bytes s (word, h)
completed F bytes s command.Conj (Conj bound first second) word h = refit F _ bytes s (word, h)
completed F bytes s command.Ponds (Ponds name) word h = refit F _ bytes s (word, h)
completed F bytes s command.Share (Share name first second) word h = refit F _ bytes s (word, h)
completed F bytes s command.Power (Power first second) word h = refit F _ bytes s (word, h)
completed F bytes s _ _ word h = absurd h

-- the line of a command
line_of : (bytes : List ℕ) (s : IsCommandText bytes) (c : Command) → s.token ≡ keyword c → IsTaken c s.rest → IsLineText bytes
line_of bytes s c word b = let v = taken_line c s.rest b in (v.0, completed CommandFits bytes s c v.0 word v.1)

pub command_line : (bytes : List ℕ) → IsCommandText bytes → IsLineText bytes
command_line bytes s = line_of bytes s s.fits.of s.fits.word s.fits.behind

-- the command of a line
abbrev pub command_for : Line → Option Command
command_for Blank = None
command_for (Group n r) = Some command.Group
command_for (Reduce rows) = Some command.Reduce
command_for (LetRows name rows) = Some command.Let
command_for (LetProduct name factors) = Some command.Let
command_for (Show name) = Some command.Show
command_for (Equal first second) = Some command.Equal
command_for (Image name word) = Some command.Image
command_for (Load name file) = Some command.Load
command_for (Basis name) = Some command.Basis
command_for (Order name) = Some command.Order
command_for (Types name) = Some command.Types
command_for (Profile name) = Some command.Profile
command_for (Parts periodic infinite whole) = Some command.Parts
command_for (Conj bound first second) = Some command.Conj
command_for (Ponds name) = Some command.Ponds
command_for (Share name first second) = Some command.Share
command_for (Power first second) = Some command.Power

-- a token for each name, with spaces before it, and spaces alone behind the last
abbrev pub AreNamed : List (List ℕ) → List ℕ → Type 0
AreNamed [] = IsSpaces
AreNamed (name ∷ names) = IsNamed name ▸ AreNamed names

-- they are the text of as many names
names_text : (names : List (List ℕ)) (bytes : List ℕ) → AreNamed names bytes → FitsSlots ending.Spaces (map (λ name. Name) names) bytes
names_text [] bytes h = h
names_text (name ∷ names) bytes h = refit _ _ bytes h (h.fits.0.0, names_text names h.rest h.fits.1)

-- bytes of a line, by its command
abbrev pub Told : List ℕ → Option Command → Type 0
Told bytes None = IsSpaces bytes ⊎ IsComment bytes
Told bytes (Some c) = (Is (keyword c) ▸ IsTaken c) bytes

pub told : (line : Line) (bytes : List ℕ) → IsLine bytes line → Told bytes (command_for line)
told Blank bytes h = h
told (Group n r) bytes h =
    refit _ _ bytes h (h.fits.0, refit _ _ h.rest h.fits.1 ((n, h.fits.1.fits.0), refit _ _ h.fits.1.rest h.fits.1.fits.1 ((r, h.fits.1.fits.1.fits.0), h.fits.1.fits.1.fits.1)))
told (Reduce rows) bytes h = refit _ _ bytes h (h.fits.0, refit _ _ h.rest h.fits.1 ((rows, h.fits.1.fits.0), h.fits.1.fits.1))
told (LetRows name rows) bytes h =
    let named = h.fits.1 in
    let equals = named.fits.1 in
    let last = equals.fits.1 in
    refit _ _ bytes h (h.fits.0, refit _ _ h.rest named (named.fits.0.0, refit _ _ named.rest equals (equals.fits.0, inl (refit _ _ equals.rest last ((rows, last.fits.0), last.fits.1)))))
told (LetProduct name factors) bytes h =
    let named = h.fits.1 in
    let equals = named.fits.1 in
    refit _ _ bytes h (h.fits.0, refit _ _ h.rest named (named.fits.0.0, refit _ _ named.rest equals (equals.fits.0, inr (factors, equals.fits.1))))
told (Show name) bytes h = refit _ _ bytes h (h.fits.0, names_text (name ∷ []) h.rest h.fits.1)
told (Equal first second) bytes h = refit _ _ bytes h (h.fits.0, names_text (first ∷ second ∷ []) h.rest h.fits.1)
told (Image name word) bytes h =
    let last = h.fits.1.fits.1 in
    refit _ _ bytes h (h.fits.0, refit _ _ h.rest h.fits.1 (h.fits.1.fits.0.0, refit _ _ h.fits.1.rest last ((word, last.fits.0), last.fits.1)))
told (Load name file) bytes h =
    let last = h.fits.1.fits.1 in
    refit _ _ bytes h (h.fits.0, refit _ _ h.rest h.fits.1 (h.fits.1.fits.0.0, refit _ _ h.fits.1.rest last (last.fits.0.0, last.fits.1)))
told (Basis name) bytes h = refit _ _ bytes h (h.fits.0, names_text (name ∷ []) h.rest h.fits.1)
told (Order name) bytes h = refit _ _ bytes h (h.fits.0, names_text (name ∷ []) h.rest h.fits.1)
told (Types name) bytes h = refit _ _ bytes h (h.fits.0, names_text (name ∷ []) h.rest h.fits.1)
told (Profile name) bytes h = refit _ _ bytes h (h.fits.0, names_text (name ∷ []) h.rest h.fits.1)
told (Parts periodic infinite whole) bytes h = refit _ _ bytes h (h.fits.0, names_text (periodic ∷ infinite ∷ whole ∷ []) h.rest h.fits.1)
told (Conj bound first second) bytes h = refit _ _ bytes h (h.fits.0, names_text (bound ∷ first ∷ second ∷ []) h.rest h.fits.1)
told (Ponds name) bytes h = refit _ _ bytes h (h.fits.0, names_text (name ∷ []) h.rest h.fits.1)
told (Share name first second) bytes h =
    let words = h.fits.1.fits.1 in
    let last = words.fits.1 in
    refit _ _ bytes h (h.fits.0, refit _ _ h.rest h.fits.1 (h.fits.1.fits.0.0, refit _ _ h.fits.1.rest words ((first, words.fits.0), refit _ _ words.rest last ((second, last.fits.0), last.fits.1))))
told (Power first second) bytes h = refit _ _ bytes h (h.fits.0, names_text (first ∷ second ∷ []) h.rest h.fits.1)

pub command_text : (bytes : List ℕ) (c : Command) → (Is (keyword c) ▸ IsTaken c) bytes → IsCommandText bytes
command_text bytes c h = refit (λ t u. Is (keyword c) t × IsTaken c u) CommandFits bytes h (record { of = c; word = h.fits.0; behind = h.fits.1 })

cases_of : (bytes : List ℕ) (c : Option Command) → Told bytes c → (IsSpaces bytes ⊎ IsComment bytes) ⊎ IsCommandText bytes
cases_of bytes None h = inl h
cases_of bytes (Some c) h = inr (command_text bytes c h)

-- a line is spaces, a comment or a command
line_cases : (line : Line) (bytes : List ℕ) → IsLine bytes line → (IsSpaces bytes ⊎ IsComment bytes) ⊎ IsCommandText bytes
line_cases line bytes h = cases_of bytes (command_for line) (told line bytes h)

-- the first token of a line that is neither spaces nor a comment is the word of a command
pub first_command : (bytes : List ℕ) (at : ℕ) (token rest : List ℕ) (line : Line) → IsUnmarked bytes → IsFirstToken bytes at token rest → IsLine bytes line → CommandFits token rest
first_command bytes at token rest line unmarked h is_line = elim (line_cases line bytes is_line) [
  | inl none ↦ (elim none [
    | inl spaces ↦ absurd (not_spaces bytes (take at bytes) (token ++ rest) spaces h.is (begins token rest h.is_token))
    | inr comment ↦ absurd (unmarked comment.text comment.marked)
  ])
  | inr s ↦ first_fits CommandFits bytes at token rest command_tokens h s
]

-- what stands behind the word of a known command
pub behind_word : (c : Command) (token rest : List ℕ) → token ≡ keyword c → CommandFits token rest → IsTaken c rest
behind_word c token rest e h = subst (λ d. IsTaken d rest) (same_command h.of c (sym h.word ∙ e)) h.behind

-- a mark begins no token that is a space
mark_begins : (text : List ℕ) → BeginsToken (35 ∷ text)
mark_begins text = λ e. absurd (omega arith)

same_mark : (a b text y : List ℕ) → IsSpaces a → IsSpaces b → BeginsToken y → a ++ 35 ∷ text ≡ b ++ y → 35 ∷ text ≡ y
same_mark a b text y p q f e = strip a b (35 ∷ text) y p q (mark_begins text) f e

-- no comment begins as a command does
pub unmarked_command : (bytes : List ℕ) → IsCommandText bytes → IsUnmarked bytes
unmarked_command bytes s = λ text m.
    no_mark s.fits.of s.rest text
    (sym (same_mark m.before s.before text (keyword s.fits.of ++ s.rest) m.spaces s.spaces (begins (keyword s.fits.of) s.rest (keyword_token s.fits.of)) (sym m.is ∙ s.is ∙ ap (λ t. s.before ++ (t ++ s.rest)) s.fits.word)))

-- behind a mark a line has no line feed
pub behind_mark_of : (bytes text : List ℕ) (line : Line) → IsCommentText bytes text → IsLine bytes line → All (λ b. b ≢ 10) text
behind_mark_of bytes text line m is_line = elim (line_cases line bytes is_line) [
  | inl none ↦ (elim none [
    | inl spaces ↦ absurd (not_spaces bytes m.before (35 ∷ text) spaces m.is (mark_begins text))
    | inr comment ↦ same_text text comment.text (same_mark m.before comment.marked.before text (35 ∷ comment.text) m.spaces comment.marked.spaces (mark_begins comment.text) (sym m.is ∙ comment.marked.is)) comment.one_line
  ])
  | inr s ↦ absurd (unmarked_command bytes s text m)
]
  where
    same_text : (text other : List ℕ) → 35 ∷ text ≡ 35 ∷ other → All (λ b. b ≢ 10) other → All (λ b. b ≢ 10) text
    same_text text other e h = let tail : other ≡ text = cc in subst (λ t. All (λ b. b ≢ 10) t) tail h

begins_rest : (bytes : List ℕ) (at : ℕ) → IsSpan (λ b. b ≡ 32) bytes at → at < length bytes → BeginsToken (drop at bytes)
begins_rest bytes at h more = subst BeginsToken (sym (drop_more bytes at 0 more)) (h.stops more)

-- what a test for a mark behind the first spaces says
pub mark_test : (bytes tail : List ℕ) (at : ℕ) (r : Option (Bor (List ℕ))) → IsSpan (λ b. b ≡ 32) bytes at → tail ≡ drop at bytes
    → MatchOption r ((rest : List ℕ) → tail ≢ codes "#" ++ rest) (λ rest. tail ≡ codes "#" ++ rest.now) → MatchOption r ((text : List ℕ) → ¬ IsCommentText bytes text) (λ text. IsCommentText bytes text.now)
mark_test bytes tail at (Some text) h is t = record {
  before = take at bytes;
  spaces = h.passes;
  is = sym (take-append-drop at bytes) ∙ ap (λ u. take at bytes ++ u) (sym is ∙ t);
}
mark_test bytes tail at None h is t = λ text m. elim (cases_lt at (length bytes)) [
  | inl more ↦ t text (is ∙ strip (take at bytes) m.before (drop at bytes) (35 ∷ text) h.passes m.spaces (begins_rest bytes at h more) (mark_begins text) (take-append-drop at bytes ∙ m.is))
  | inr none ↦ not_spaces bytes m.before (35 ∷ text) (subst IsSpaces (take_all at bytes none) h.passes) m.is (mark_begins text)
]

-- a span over all bytes
pub span_all : (P : ℕ → Type 0) (bytes : List ℕ) (k : ℕ) → IsSpan P bytes k → length bytes ≤ k → All P bytes
span_all P bytes k h all = subst (λ t. All P t) (take_all k bytes all) h.passes

-- the longest front of a line that begins with a comment
pub longest_comment : (bytes text : List ℕ) (k : ℕ) → IsCommentText bytes text → IsSpan (λ b. b ≢ 10) text k → IsLongestFront IsLineText bytes (length bytes - length text + k)
longest_comment bytes text k m h =
    let pre : List ℕ = m.before ++ 35 ∷ [] in
    let whole : pre ++ text ≡ bytes = append_assoc m.before (35 ∷ []) text ∙ sym m.is in
    let len : length pre + length text ≡ length bytes = sym (length-append pre text) ∙ ap (λ (t : List ℕ). length t) whole in
    moved IsLineText bytes (pre ++ text) (length bytes - length text + k) (length pre + k) whole (omega arith)
    (longest_behind IsLineText (λ t. All (λ b. b ≢ 10) t) pre text k
    (λ f. record { rest = f.rest; text = (Blank, inr (record { text = take k text ++ f.rest; marked = marked m.before m.spaces (take k text) f.rest; one_line = f.text })) })
    (λ i low high f. record { rest = f.rest; text = behind_mark_of ((pre ++ take i text) ++ f.rest) (take i text ++ f.rest) f.text.0 (marked m.before m.spaces (take i text) f.rest) f.text.1 })
    (longest_span (λ b. b ≢ 10) text k h))
  where
    marked : (before : List ℕ) → IsSpaces before → (x rest : List ℕ) → IsCommentText (((before ++ 35 ∷ []) ++ x) ++ rest) (x ++ rest)
    marked before spaces x rest = record { before = before; spaces = spaces; is = append_assoc (before ++ 35 ∷ []) x rest ∙ append_assoc before (35 ∷ []) (x ++ rest) }

-- a front of a comment is spaces, or has its mark
mark_within : (a r b t : List ℕ) → AllByRecursion (λ c. c ≡ 32) b → a ++ r ≡ b ++ 35 ∷ t → AllByRecursion (λ c. c ≡ 32) a ⊎ ((e : List ℕ) × (a ≡ b ++ 35 ∷ e))
mark_within [] r b t h e = inl tt
mark_within (z ∷ a) r [] t h e = let head : z ≡ 35 = cc in inr (a, cc)
mark_within (z ∷ a) r (y ∷ b) t h e =
    let head : z ≡ y = cc in
    let tail : a ++ r ≡ b ++ 35 ∷ t = cc in
    elim (mark_within a r b t h.1 tail) [
      | inl spaces ↦ inl (head ∙ h.0, spaces)
      | inr found ↦ inr (found.0, (let rest = found.1 in cc))
    ]

-- a front of some line is one of a command, where no comment begins
command_front : (a d : List ℕ) → IsUnmarked (a ++ d) → IsFront IsLineText a → IsFront IsCommandText a
command_front a d unmarked f = elim (line_cases f.text.0 (a ++ f.rest) f.text.1) [
  | inl none ↦ (elim none [
    | inl spaces ↦ blank a (spaces_left a f.rest spaces)
    | inr comment ↦ (elim (mark_within a f.rest comment.marked.before comment.text (recursion_from_All (λ b. b ≡ 32) comment.marked.before comment.marked.spaces) comment.marked.is) [
      | inl spaces ↦ blank a (All-from_recursion (λ b. b ≡ 32) a spaces)
      | inr found ↦ absurd (unmarked (found.0 ++ d) (record {
        before = comment.marked.before;
        spaces = comment.marked.spaces;
        is = ap (λ t. t ++ d) found.1 ∙ append_assoc comment.marked.before (35 ∷ found.0) d;
      }))
    ])
  ])
  | inr s ↦ record { rest = f.rest; text = s }
]
  where
    blank : (bytes : List ℕ) → IsSpaces bytes → IsFront IsCommandText bytes
    blank bytes spaces = spaces_front CommandFits bytes (keyword command.Group) command_takes_space (word_fits (keyword command.Group) (command.Group, refl)) spaces

-- without a comment the longest front of a line is that of a command
pub longest_line : (bytes : List ℕ) (k : ℕ) → IsUnmarked bytes → IsLongestFront IsCommandText bytes k → IsLongestFront IsLineText bytes k
longest_line bytes k unmarked h = record {
  within = h.within;
  front = front_map IsCommandText IsLineText (take k bytes) command_line h.front;
  longest = λ j l f. h.longest j l (command_front (take j bytes) (drop j bytes) (subst IsUnmarked (sym (take-append-drop j bytes)) unmarked) f);
}

-- only spaces
pub longest_blank : (bytes : List ℕ) → IsSpaces bytes → IsLongestFront IsLineText bytes (length bytes)
longest_blank bytes spaces = longest_whole IsLineText bytes (record { rest = []; text = (Blank, inl (subst IsSpaces (sym (append-nil bytes)) spaces)) })

-- the word is that of no command
pub longest_in_word : (bytes : List ℕ) (at : ℕ) (token rest : List ℕ) (k : ℕ) → IsUnmarked bytes → IsFirstToken bytes at token rest → ¬ IsKeyword token → IsLongestFront IsKeyword token k → IsLongestFront IsLineText bytes (at + k)
longest_in_word bytes at token rest k unmarked h none front =
    longest_line bytes (at + k) unmarked
    (longest_in_token CommandFits bytes at token rest k command_tokens command_takes_space h (inr (λ f. none (fits_word token f))) (longest_same IsKeyword (Fits CommandFits) token k word_fits fits_word front))

-- the bytes end with the word of a command
pub longest_to_word : (bytes : List ℕ) (at : ℕ) (token rest : List ℕ) (c : Command) → IsUnmarked bytes → IsFirstToken bytes at token rest → length rest ≡ 0 → token ≡ keyword c → IsLongestFront IsLineText bytes (length bytes)
longest_to_word bytes at token rest c unmarked h none word =
    let end : rest ≡ [] = nil_from_length rest none in
    let fits = word_fits token (c, word) in
    let whole = longest_whole (Fits CommandFits) token (record { rest = []; text = subst (λ t. Fits CommandFits t) (sym (append-nil token)) fits }) in
    let len : length bytes ≡ at + length token =
    ap (λ (t : List ℕ). length t) h.is ∙ length-append (take at bytes) (token ++ rest) ∙ ap (λ n. n + length (token ++ rest)) (length-take-le at bytes h.within) ∙ ap (λ (t : List ℕ). at + length t) (ap (λ t. token ++ t) end ∙ append-nil token) in
    subst (λ n. IsLongestFront IsLineText bytes n) (sym len)
    (longest_line bytes (at + length token) unmarked (longest_in_token CommandFits bytes at token rest (length token) command_tokens command_takes_space h (inl end) whole))

-- the longest front goes on behind the word of a command
pub longest_past_word : (bytes : List ℕ) (at : ℕ) (token rest : List ℕ) (c : Command) (k : ℕ) → IsUnmarked bytes → IsFirstToken bytes at token rest → token ≡ keyword c → IsLongestFront (IsTaken c) rest k
    → IsLongestFront IsLineText bytes (at + length token + k)
longest_past_word bytes at token rest c k unmarked h word front =
    longest_line bytes (at + length token + k) unmarked
    (longest_past_token CommandFits bytes at token rest k command_tokens command_takes_space h
    (longest_same (IsTaken c) (CommandFits token) rest k (λ t b. record { of = c; word = word; behind = b }) (λ t f. behind_word c token t word f) front))

-- the line found behind the word of a command is that of all the bytes
pub line_read : {E : Type 0} (bytes : List ℕ) (at : ℕ) (token rest : List ℕ) (c : Command) → IsUnmarked bytes → IsFirstToken bytes at token rest → token ≡ keyword c → (r : Result (Option Line) E)
    → IfOk r (Reads c rest) → IfOk r (λ found. MatchOption found (IsNoLine bytes) (IsLine bytes))
line_read bytes at token rest c unmarked h word (Err e) g = g
line_read bytes at token rest c unmarked h word (Ok None) g = λ line is_line. g (behind_word c token rest word (first_command bytes at token rest line unmarked h is_line))
line_read bytes at token rest c unmarked h word (Ok (Some line)) g =
    completed (λ t u. t ≡ keyword c) bytes (record { before = take at bytes; token = token; rest = rest; spaces = h.spaces; apart = h.apart; fits = word; is = h.is }) c line word g
