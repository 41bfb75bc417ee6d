-- The chain of a number is that of its half, and one or two further numbers.
use Rattle.std.proofs.Common.{◌≡◌, ℕ, zero, suc, ◌+◌, ◌*◌, ◌≤◌, ◌<◌, inl, inr, List, [], ◌∷◌, ◌++◌, length, drop, get_or, sym, ap, subst, ◌∙◌, append_assoc, append-nil, arith}
use Rattle.std.specs.Prelude.{◌-◌, ◌/◌, ◌%◌, ◌^◌, ◌⊎◌, Bool, true, false, if◌then◌else◌, nat_eq, Some, slice_get}
use Rattle.std.specs.Int.Digits.{digits_of, number_from_digits, number_from_digits_after, AllBelowBase}
use Rattle.std.proofs.lemmas.Int.Digits.{digits_of_step, number_digits_of, first_digits_of, all_below_base_digits_of, length-digits_of-le}
use Rattle.std.proofs.lemmas.List.{length-append, length-drop}
use Rattle.std.proofs.lemmas.Option.{slice_get-get_or}
use Rattle.std.proofs.Math.Seq.{get_or-append_seam}
use Rattle.ht_num.specs.Chains.{doubled, chain_from, chain}

-- what digits and one more digit add
chain_from-append : (c d : ℕ) (ds : List ℕ) → chain_from c (ds ++ d ∷ []) ≡ chain_from c ds ++ doubled (number_from_digits_after 2 c ds) d
chain_from-append c d [] = append-nil (doubled c d)
chain_from-append c d (e ∷ ds) = ap (λ (t : List ℕ). doubled c e ++ t) (chain_from-append (c * 2 + e) d ds) ∙ sym (append_assoc (doubled c e) (chain_from (c * 2 + e) ds) (doubled (number_from_digits_after 2 (c * 2 + e) ds) d))

-- digits that begin with 1, and one more digit
chain_behind : (ds : List ℕ) (d : ℕ) → 0 < get_or ds 0 0 → AllBelowBase 2 ds → 1 ∷ chain_from 1 (drop 1 (ds ++ d ∷ [])) ≡ (1 ∷ chain_from 1 (drop 1 ds)) ++ doubled (number_from_digits 2 ds) d
chain_behind [] d some below = absurd (omega (arith, some))
chain_behind (e ∷ ds) d some below =
    let one : 1 ≡ 0 + e = omega (arith, some, below.0) in
    ap (λ (t : List ℕ). 1 ∷ t) (chain_from-append 1 d ds ∙ ap (λ c. chain_from 1 ds ++ doubled (number_from_digits_after 2 c ds) d) one)

-- the chain of a number goes over the chain of its half
pub chain_step : (k : ℕ) → 2 ≤ k → chain k ≡ chain (k / 2) ++ doubled (k / 2) (k % 2)
chain_step k l =
    ap (λ (t : List ℕ). 1 ∷ chain_from 1 (drop 1 t)) (digits_of_step 2 k (omega arith) (omega arith))
    ∙ chain_behind (digits_of 2 (k / 2)) (k % 2) (first_digits_of 2 (k / 2) (omega arith) (omega arith)) (all_below_base_digits_of 2 (k / 2) (omega arith))
    ∙ ap (λ c. chain (k / 2) ++ doubled c (k % 2)) (number_digits_of 2 (k / 2) (omega arith))

-- an even number comes behind the chain of its half
even_chain : (k : ℕ) → 2 ≤ k → k % 2 ≡ 0 → chain k ≡ chain (k / 2) ++ k ∷ []
even_chain k l e =
    let is : k / 2 * 2 ≡ k = omega (arith, e) in
    chain_step k l ∙ ap (λ d. chain (k / 2) ++ doubled (k / 2) d) e ∙ ap (λ c. chain (k / 2) ++ c ∷ []) is

-- an odd number comes behind the chain of its half and the number before it
odd_chain : (k : ℕ) → 2 ≤ k → k % 2 ≡ 1 → chain k ≡ chain (k / 2) ++ (k - 1) ∷ k ∷ []
odd_chain k l e =
    let before : k / 2 * 2 ≡ k - 1 = omega (arith, e) in
    let is : k - 1 + 1 ≡ k = omega arith in
    chain_step k l ∙ ap (λ d. chain (k / 2) ++ doubled (k / 2) d) e ∙ ap (λ c. chain (k / 2) ++ c ∷ (c + 1) ∷ []) before ∙ ap (λ c. chain (k / 2) ++ (k - 1) ∷ c ∷ []) is

-- a number is even or odd
even_or_odd : (k : ℕ) → (k % 2 ≡ 0) ⊎ (k % 2 ≡ 1)
even_or_odd k = grind arith

-- a chain is longer than that of the half by one, or by two where the number is odd
pub length-chain_step : (k : ℕ) → 2 ≤ k → length (chain k) ≡ length (chain (k / 2)) + (1 + k % 2)
length-chain_step k l = elim (even_or_odd k) [
  | inl e ↦ omega (arith, e, ap (λ (t : List ℕ). length t) (even_chain k l e), length-append (chain (k / 2)) (k ∷ []))
  | inr e ↦ omega (arith, e, ap (λ (t : List ℕ). length t) (odd_chain k l e), length-append (chain (k / 2)) ((k - 1) ∷ k ∷ []))
]

-- doubling gives two numbers at most
length-doubled : (c d : ℕ) → length (doubled c d) ≤ 2
length-doubled c d = two_at_most (nat_eq d 1)
  where
    two_at_most : (both : Bool) → length (if both then ((c * 2) ∷ (c * 2 + 1) ∷ []) else ((c * 2) ∷ [])) ≤ 2
    two_at_most true = omega arith
    two_at_most false = omega arith

-- each digit adds two numbers at most
length-chain_from : (c : ℕ) (ds : List ℕ) → length (chain_from c ds) ≤ 2 * length ds
length-chain_from c [] = omega arith
length-chain_from c (d ∷ ds) = omega (arith, length-append (doubled c d) (chain_from (c * 2 + d) ds), length-chain_from (c * 2 + d) ds, length-doubled c d)

-- the chains of numbers of 127 binary digits are short
pub chain_short : (k : ℕ) → k < 2 ^ 127 → length (chain k) ≤ 255
chain_short k l = omega (arith, length-chain_from 1 (drop 1 (digits_of 2 k)), length-drop 1 (digits_of 2 k), length-digits_of-le 2 127 k (omega arith) l)

-- the entry behind a front
entry_behind : (front tail : List ℕ) (x i : ℕ) → i ≡ length front → slice_get (front ++ x ∷ tail) i ≡ Some x
entry_behind front tail x i e =
    slice_get-get_or (front ++ x ∷ tail) i 0 (omega (arith, e, length-append front (x ∷ tail)))
    ∙ ap (λ j. Some (get_or (front ++ x ∷ tail) j 0)) e
    ∙ ap Some (get_or-append_seam front x tail 0)

-- the chain of a number ends with the number
pub chain_last : (k i : ℕ) (all tail : List ℕ) → 1 ≤ k → all ≡ chain k ++ tail → i + 1 ≡ length (chain k) → slice_get all i ≡ Some k
chain_last k i all tail low is e = elim (one_or k low) [
  | inl one ↦ subst (λ (j : ℕ). all ≡ chain j ++ tail → i + 1 ≡ length (chain j) → slice_get all i ≡ Some j) (sym one) (λ first place. subst (λ (t : List ℕ). slice_get t i ≡ Some 1) (sym first) (entry_behind [] tail 1 i (omega arith))) is e
  | inr l ↦ elim (even_or_odd k) [
    | inl even ↦ at_end (chain (k / 2)) (even_chain k l even)
    | inr odd ↦ at_end (chain (k / 2) ++ (k - 1) ∷ []) (odd_chain k l odd ∙ sym (append_assoc (chain (k / 2)) ((k - 1) ∷ []) (k ∷ [])))
  ]
]
  where
    one_or : (k : ℕ) → 1 ≤ k → (k ≡ 1) ⊎ (2 ≤ k)
    one_or k low = grind arith

    at_end : (front : List ℕ) → chain k ≡ front ++ k ∷ [] → slice_get all i ≡ Some k
    at_end front split = subst (λ (t : List ℕ). slice_get t i ≡ Some k) (sym (is ∙ ap (λ (t : List ℕ). t ++ tail) split ∙ append_assoc front (k ∷ []) tail)) (entry_behind front tail k i (omega (arith, e, ap (λ (t : List ℕ). length t) split, length-append front (k ∷ []))))

-- the chain of an odd number has the number before it in the last place but one
pub chain_before_last : (k i : ℕ) (all tail : List ℕ) → 2 ≤ k → k % 2 ≡ 1 → all ≡ chain k ++ tail → i + 2 ≡ length (chain k) → slice_get all i ≡ Some (k - 1)
chain_before_last k i all tail l odd is e =
    subst (λ (t : List ℕ). slice_get t i ≡ Some (k - 1)) (sym (is ∙ ap (λ (t : List ℕ). t ++ tail) (odd_chain k l odd) ∙ append_assoc (chain (k / 2)) ((k - 1) ∷ k ∷ []) tail))
    (entry_behind (chain (k / 2)) (k ∷ tail) (k - 1) i (omega (arith, e, ap (λ (t : List ℕ). length t) (odd_chain k l odd), length-append (chain (k / 2)) ((k - 1) ∷ k ∷ []))))

-- a chain with more than one entry is that of a number from 2 on
pub longer_chain : (k : ℕ) → 1 ≤ k → 1 < length (chain k) → 2 ≤ k
longer_chain zero low l = absurd (omega arith)
longer_chain (suc zero) low l = absurd (omega (arith, l))
longer_chain (suc (suc k)) low l = omega arith

-- what is left of a chain before the one or two last numbers
pub chain_front : (k : ℕ) (all tail : List ℕ) → 2 ≤ k → all ≡ chain k ++ tail → (rest : List ℕ) × (all ≡ chain (k / 2) ++ rest)
chain_front k all tail l is = (doubled (k / 2) (k % 2) ++ tail, is ∙ ap (λ (t : List ℕ). t ++ tail) (chain_step k l) ∙ append_assoc (chain (k / 2)) (doubled (k / 2) (k % 2)) tail)
