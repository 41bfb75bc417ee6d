-- Names of elements and of files in a script.
--
--     IsBounded Start Byte most bytes   a first byte that Start holds of, and behind it at most so many that Byte holds of
--     IsNameByte b     a to z, 0 to 9 or `_`
--     IsNameStart b    a to w, y or z: an `x` begins a word
--     IsName bytes     1 to 32 bytes, the first such a start, the others such bytes
--     IsFileStart b    a letter A to Z or a to z, or a digit 0 to 9
--     IsFileByte b     the same, or `_`, `-` or `.`
--     IsFileName bytes  1 to 64 bytes, the first such a start, the others such bytes
use Rattle.std.specs.Prelude.{◌≡◌, ◌≢◌, ◌≤◌, ◌⊎◌, ℕ, List, ◌∷◌, All, length}

pub record IsBounded (Start Byte : ℕ → Type 0) (most : ℕ) (bytes : List ℕ) : Type 0 where
  pub first : ℕ
  pub others : List ℕ
  pub is : bytes ≡ first ∷ others
  pub short : length others ≤ most
  pub is_start : Start first
  pub are_bytes : All Byte others

abbrev pub IsNameByte : ℕ → Type 0
IsNameByte b = ((97 ≤ b) × (b ≤ 122)) ⊎ (((48 ≤ b) × (b ≤ 57)) ⊎ (b ≡ 95))

abbrev pub IsNameStart : ℕ → Type 0
IsNameStart b = (97 ≤ b) × (b ≤ 122) × (b ≢ 120)

abbrev pub IsName : List ℕ → Type 0
IsName bytes = IsBounded IsNameStart IsNameByte 31 bytes

abbrev pub IsFileStart : ℕ → Type 0
IsFileStart b = ((65 ≤ b) × (b ≤ 90)) ⊎ (((97 ≤ b) × (b ≤ 122)) ⊎ ((48 ≤ b) × (b ≤ 57)))

abbrev pub IsFileByte : ℕ → Type 0
IsFileByte b = IsFileStart b ⊎ ((b ≡ 95) ⊎ ((b ≡ 45) ⊎ (b ≡ 46)))

abbrev pub IsFileName : List ℕ → Type 0
IsFileName bytes = IsBounded IsFileStart IsFileByte 63 bytes
