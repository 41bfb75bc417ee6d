-- What the tests on neighbouring words say.
use Rattle.std.proofs.Common.{◌≢◌, ℕ, suc, ◌+◌, ◌<◌, ◌≤◌, ◌⊎◌, ◌↔◌, inl, inr, min, List, [], ◌∷◌, length, get_or, drop, drop-cons, add-one, arith}
use Rattle.std.proofs.lemmas.List.{drop_all}
use Rattle.ht_pair.specs.Tilings.{IsStep, NextPath}

-- no list is next to the empty one
next_nil : (n : ℕ) (s : List ℕ) → ¬ NextPath n s []
next_nil n [] h = h
next_nil n (a ∷ s) h = h

-- where one list has ended, neither is next to the other
pub next_ended : (n k : ℕ) (s t : List ℕ) → min (length s) (length t) ≤ k → ¬ NextPath n (drop k s) (drop k t)
next_ended n k s t l = elim (one_ended (length s) (length t) k l) [
  | inl m ↦ rw (drop_all k s m) (λ h. h)
  | inr m ↦ rw (drop_all k t m) (next_nil n (drop k s))
]
  where
    one_ended : (i j k : ℕ) → min i j ≤ k → (i ≤ k) ⊎ (j ≤ k)
    one_ended i j k l = grind arith

-- lists that begin with unlike entries are next to each other only by a step
next_step : (n a b : ℕ) (s t : List ℕ) → a ≢ b → NextPath n (a ∷ s) (b ∷ t) → IsStep n a b s t
next_step n a b s t unlike (inl h) = absurd (unlike h.0)
next_step n a b s t unlike (inr h) = h

-- where the lists are unlike at k, what stands behind k decides
pub next_step_at : (n k : ℕ) (s t : List ℕ) → k < length s → k < length t → get_or s k 0 ≢ get_or t k 0 → NextPath n (drop k s) (drop k t) ↔ IsStep n (get_or s k 0) (get_or t k 0) (drop (k + 1) s) (drop (k + 1) t)
next_step_at n k s t l m unlike = rw (drop-cons s k 0 l, drop-cons t k 0 m, add-one) (next_step n (get_or s k 0) (get_or t k 0) (drop (suc k) s) (drop (suc k) t) unlike, λ h. inr h)

-- nothing is behind the last entry of a list, so there the lists make a step
pub next_last : (n a b : ℕ) (s : List ℕ) → NextPath n (a ∷ s) (b ∷ []) → IsStep n a b s []
next_last n a b s (inl h) = absurd (next_nil n s h.1)
next_last n a b s (inr h) = h
