-- The lines of a script, and its limits.
--
--     lines_of bytes        the parts between line feeds; behind the last one only what isn't empty
--     whole_lines bytes     the lines that end with a line feed
--     IsShort line          the line has at most 65,536 bytes
--     IsTooLong bytes       some line has more than 65,536 bytes, or there are more than 65,536 lines
--     counting_lines bytes  the lines before the first one that has more than 65,536 bytes, and of these the first 65,536
use Rattle.std.specs.Prelude.{ℕ, ◌<◌, ◌≤◌, ◌==◌, ◌⊎◌, List, [], ◌∷◌, length, take, take_while, Any, nat_le, if◌then◌else◌}

-- a byte before the first line
abbrev pub onto_first : ℕ → List (List ℕ) → List (List ℕ)
onto_first b [] = (b ∷ []) ∷ []
onto_first b (line ∷ lines) = (b ∷ line) ∷ lines

abbrev pub lines_of : List ℕ → List (List ℕ)
lines_of [] = []
lines_of (b ∷ bytes) = if b == 10 then [] ∷ lines_of bytes else onto_first b (lines_of bytes)

-- a byte before the first whole line, if there is one
abbrev pub onto_whole : ℕ → List (List ℕ) → List (List ℕ)
onto_whole b [] = []
onto_whole b (line ∷ lines) = (b ∷ line) ∷ lines

abbrev pub whole_lines : List ℕ → List (List ℕ)
whole_lines [] = []
whole_lines (b ∷ bytes) = if b == 10 then [] ∷ whole_lines bytes else onto_whole b (whole_lines bytes)

abbrev pub IsShort : List ℕ → Type 0
IsShort line = length line ≤ 65536

abbrev pub IsTooLong : List ℕ → Type 0
IsTooLong bytes = Any (λ line. 65536 < length line) (lines_of bytes) ⊎ (65536 < length (lines_of bytes))

abbrev pub counting_lines : List ℕ → List (List ℕ)
counting_lines bytes = take 65536 (take_while (λ line. nat_le (length line) 65536) (lines_of bytes))
