-- Tokens with spaces round them.
--
--     IsSpaces bytes            the bytes are spaces, none or more
--     IsToken token             at least one byte, none a space
--     IsApart rest              nothing, or a space first
--     IsSpaced F bytes          spaces, a token, and a rest that is apart from it, so that F holds of token and rest
--     T ▸ R                     spaces, a token of T, and apart from it what R holds of
--     Is text token             the token is this text
--     IsSpan P bytes k          the first k bytes have P, and the next one, if any, hasn't
--     IsFirstToken bytes at token rest   behind the first at bytes, which are spaces, are the token and the rest
use Rattle.std.specs.Prelude.{◌≡◌, ◌≢◌, ◌<◌, ◌≤◌, ℕ, List, [], ◌∷◌, ◌++◌, All, length, take, slice_index}

infixr 30 ◌▸◌
abbrev pub IsSpaces : List ℕ → Type 0
IsSpaces bytes = All (λ b. b ≡ 32) bytes

pub record IsToken (token : List ℕ) : Type 0 where
  pub some : 0 < length token
  pub no_space : All (λ b. b ≢ 32) token

abbrev pub IsApart : List ℕ → Type 0
IsApart [] = Unit {0}
IsApart (b ∷ rest) = b ≡ 32

pub record IsSpaced (F : List ℕ → List ℕ → Type 0) (bytes : List ℕ) : Type 0 where
  pub before : List ℕ
  pub token : List ℕ
  pub rest : List ℕ
  pub spaces : IsSpaces before
  pub apart : IsApart rest
  pub fits : F token rest
  pub is : bytes ≡ before ++ (token ++ rest)

abbrev pub ◌▸◌ : (List ℕ → Type 0) → (List ℕ → Type 0) → List ℕ → Type 0
T ▸ R = IsSpaced (λ token rest. T token × R rest)

abbrev pub Is : List ℕ → List ℕ → Type 0
Is text token = token ≡ text

pub record IsSpan (P : ℕ → Type 0) (bytes : List ℕ) (k : ℕ) : Type 0 where
  pub within : k ≤ length bytes
  pub passes : All P (take k bytes)
  pub stops : k < length bytes → ¬ P (slice_index bytes k)

pub record IsFirstToken (bytes : List ℕ) (at : ℕ) (token rest : List ℕ) : Type 0 where
  pub within : at ≤ length bytes
  pub spaces : IsSpaces (take at bytes)
  pub is_token : IsToken token
  pub apart : IsApart rest
  pub is : bytes ≡ take at bytes ++ (token ++ rest)
