-- Maps of names to bytes, as lists of entries: where a name stands twice, the first entry counts.
--
--     file_of files name             the bytes of the first entry of this name
--     Finds files name bytes         there is such an entry, and these are its bytes
--     Misses files name              the map is told, and the name isn't in it
--     Gives files name most bytes    the name is in it, and bytes are the first most + 1 of its bytes
use Rattle.std.specs.Prelude.{◌≡◌, ℕ, ◌+◌, List, [], ◌∷◌, take, Option, None, Some, cond}
use Rattle.std.specs.Option.{option_map}
use Rattle.std.specs.Str.{bytes_eq}

abbrev pub file_of : List (List ℕ × List ℕ) → List ℕ → Option (List ℕ)
file_of [] name = None
file_of (entry ∷ files) name = cond (bytes_eq entry.0 name) (Some entry.1) (file_of files name)

abbrev pub Finds : List (List ℕ × List ℕ) → List ℕ → List ℕ → Type 0
Finds files name bytes = file_of files name ≡ Some bytes

abbrev pub Misses : Option (List (List ℕ × List ℕ)) → List ℕ → Type 0
Misses None name = ⊥
Misses (Some files) name = file_of files name ≡ None

abbrev pub Gives : List (List ℕ × List ℕ) → List ℕ → ℕ → List ℕ → Type 0
Gives files name most bytes = option_map (λ file. take (most + 1) file) (file_of files name) ≡ Some bytes
