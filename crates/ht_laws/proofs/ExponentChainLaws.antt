-- The chain of an exponent leads from 1 to it by doubling, and by adding 1 to an even number.
use Rattle.std.proofs.Common.{◌≡◌, ℕ, zero, suc, ◌+◌, ◌*◌, ◌≤◌, ◌⊎◌, inl, inr, List, [], ◌∷◌, length, drop, Some, None, slice_get, sym, subst, arith, add-one, append-nil}
use Rattle.std.specs.Prelude.{◌-◌, ◌%◌}
use Rattle.std.specs.Int.Digits.{digits_of, AllBelowBase}
use Rattle.std.proofs.lemmas.Int.Digits.{all_below_base_digits_of}
use Rattle.std.proofs.lemmas.Option.{same_Some}
use Rattle.ht_num.specs.Chains.{chain_from, chain}
use Rattle.ht_num.proofs.ChainLaws.{chain_last}

-- twice the number, or the odd one after it
abbrev pub IsNextExponent : ℕ → ℕ → Type 0
IsNextExponent a b = (b ≡ a * 2) ⊎ ((b ≡ a + 1) × (b % 2 ≡ 1))

doubles : (c a b : ℕ) → Some c ≡ Some a → Some (c * 2) ≡ Some b → IsNextExponent a b
doubles c a b here next = inl (omega (arith, same_Some c a here, same_Some (c * 2) b next))

adds_one : (c a b : ℕ) → Some (c * 2) ≡ Some a → Some (c * 2 + 1) ≡ Some b → IsNextExponent a b
adds_one c a b here next =
    let at : c * 2 ≡ a = same_Some (c * 2) a here in
    let behind : c * 2 + 1 ≡ b = same_Some (c * 2 + 1) b next in
    inr (omega (arith, at, behind), omega (arith, behind))

-- each entry of what digits add is the next exponent after the one before
next_from : (ds : List ℕ) (c : ℕ) → AllBelowBase 2 ds → (i a b : ℕ) → slice_get (c ∷ chain_from c ds) i ≡ Some a → slice_get (c ∷ chain_from c ds) (suc i) ≡ Some b → IsNextExponent a b
next_from [] c below i a b here next = absurd (none next)
  where
    none : {b : ℕ} → None ≡ Some b → ⊥
    none e = cc
next_from (zero ∷ ds) c below zero a b here next = doubles c a b here next
next_from (zero ∷ ds) c below (suc i) a b here next =
    next_from ds (c * 2) below.1 i a b (subst (λ k. slice_get (c * 2 ∷ chain_from k ds) i ≡ Some a) (plain c) here) (subst (λ k. slice_get (chain_from k ds) i ≡ Some b) (plain c) next)
  where
    plain : (c : ℕ) → c * 2 + 0 ≡ c * 2
    plain c = omega arith
next_from (suc zero ∷ ds) c below zero a b here next = doubles c a b here next
next_from (suc zero ∷ ds) c below (suc zero) a b here next = adds_one c a b here next
next_from (suc zero ∷ ds) c below (suc (suc i)) a b here next = next_from ds (c * 2 + 1) below.1 i a b here next
next_from (suc (suc d) ∷ ds) c below i a b here next = absurd (omega (arith, below.0))

-- so is each entry of a chain
pub chain_next : (k i a b : ℕ) → slice_get (chain k) i ≡ Some a → slice_get (chain k) (i + 1) ≡ Some b → IsNextExponent a b
chain_next k i a b here next =
    next_from (drop 1 (digits_of 2 k)) 1 (tail_below (digits_of 2 k) (all_below_base_digits_of 2 k (omega arith))) i a b here (subst (λ j. slice_get (chain k) j ≡ Some b) (add-one i) next)
  where
    tail_below : (ds : List ℕ) → AllBelowBase 2 ds → AllBelowBase 2 (drop 1 ds)
    tail_below [] below = below
    tail_below (d ∷ ds) below = below.1

-- a chain ends with its exponent
pub chain_ends : (k : ℕ) → 1 ≤ k → slice_get (chain k) (length (chain k) - 1) ≡ Some k
chain_ends k low = chain_last k (length (chain k) - 1) (chain k) [] low (sym (append-nil (chain k))) (omega arith)
