-- The chain of an exponent: the exponents over which a power is made by doubling. This project's own.
-- The chain of 6, which has the binary digits 1, 1, 0, is 1, 2, 3, 6.
--
--     doubled c d       twice c; with the digit 1 then the number after it
--     chain_from c ds   what the digits ds add behind the number c
--     chain k           the chain of k, from 1 on: 1, and what the binary digits of k behind the first add
use Rattle.std.specs.Prelude.{ℕ, ◌+◌, ◌*◌, List, [], ◌∷◌, ◌++◌, drop, if◌then◌else◌, nat_eq}
use Rattle.std.specs.Int.Digits.{digits_of}

abbrev pub doubled : ℕ → ℕ → List ℕ
doubled c d = if nat_eq d 1 then ((c * 2) ∷ (c * 2 + 1) ∷ []) else ((c * 2) ∷ [])

abbrev pub chain_from : ℕ → List ℕ → List ℕ
chain_from c [] = []
chain_from c (d ∷ ds) = doubled c d ++ chain_from (c * 2 + d) ds

abbrev pub chain : ℕ → List ℕ
chain k = 1 ∷ chain_from 1 (drop 1 (digits_of 2 k))
