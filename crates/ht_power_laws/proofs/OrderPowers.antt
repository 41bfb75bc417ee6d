-- The powers of an element of which some power is the identity, and those of an element of finite order.
use Rattle.std.proofs.Common.{◌≡◌, ℕ, suc, ◌+◌, ◌-◌, ◌*◌, ◌/◌, ◌%◌, ◌≤◌, ◌<◌, ◌↔◌, inl, inr, List, ap, subst, arith, ℤ, pos, negsuc, ◌+ℤ◌, ◌*ℤ◌}
use Rattle.std.specs.Int.{◌∣◌}
use Rattle.std.proofs.lemmas.Bool.{cases_eq}
use Rattle.std.proofs.lemmas.Int.{ints}
use Rattle.std.proofs.lemmas.List.Elements.{All-nil}
use Rattle.std.proofs.lemmas.Nat.{div-add-mod'}
use Rattle.std.proofs.lemmas.Nat.Gcd.{dvd_of_mod-eq-zero}
use Rattle.std.proofs.Math.Nat.{div-mul_cancel, mod-lt, mul-le-mul_left, mul_comm}
use Rattle.ht_word.specs.Words.{IsLetter, IsWordOf, root_word}
use Rattle.ht_word.specs.declared.shape.Shape.{Shape}
use Rattle.ht_word.specs.declared.word.Word.{Word}
use Rattle.ht_pair.specs.Orders.{FixesRoots, IsOrder}
use Rattle.ht_pair.specs.Pairs.{IsPair}
use Rattle.ht_pair.specs.Products.{IsPower}
use Rattle.ht_pair.specs.Steps.{Carries}
use Rattle.ht_pair.specs.declared.row.Row.{Row}
use Rattle.ht_pair.proofs.CarriesLaws.{carries_single, carries_from_steps, carries_back, carries_rest, carries_sum}
use Rattle.ht_pair.proofs.IdentityLaws.{fixed_word}
use Rattle.ht_pair.proofs.PowerLaws.{power_exists, power_once}
use Rattle.ht_pair.proofs.PowerProducts.{power_mul}
use Rattle.ht_ops.proofs.AlikeProducts.{power_alike}
use Rattle.ht_types.proofs.PeriodicLaws.{carries_round}
use Rattle.ht_laws.proofs.GroupLaws.{carries_by_power}
use Rattle.ht_laws.proofs.PrefixLaws.{moves_carries}
use Rattle.ht_power_laws.proofs.PowerCarries.{power_carries}

-- a root is a word
root_is_word : (shape : Shape) (root : ℕ) → 1 ≤ root → root ≤ shape.r → IsWordOf shape (root_word root)
root_is_word shape root low high = record { root_low = low; root_high = high; letters = All-nil (IsLetter shape) }

-- the k-th power of a power is the identity exactly where the power by the product is
pub power_fixes : {shape : Shape} {p s : List Row} {i : ℕ} → IsPair shape p → IsPower shape p (pos i) s → (k : ℕ) → FixesRoots shape s k ↔ FixesRoots shape p (k * i)
power_fixes pair power k = (
  (λ fixes root low high. (power_carries pair power (pos k) (root_word root) (root_word root)).0 (fixes root low high)),
  (λ fixes root low high. (power_carries pair power (pos k) (root_word root) (root_word root)).1 (fixes root low high)),
)

-- steps that lead a word back do so again and again, also backwards
pub multiple_returns : {shape : Shape} {p : List Row} → IsPair shape p → (k : ℤ) (q : ℕ) (x : Word) → Carries shape p k x x → Carries shape p (k *ℤ pos q) x x
multiple_returns {shape} {p} pair (pos n) q x c = subst (λ i. Carries shape p (pos i) x x) (mul_comm q n) (carries_round shape p pair n x c q)
multiple_returns {shape} {p} pair (negsuc n) q x c =
    let ahead = carries_round shape p pair (suc n) x (carries_back shape p pair (negsuc n) x x c) q in
    carries_back shape p pair (pos (suc n * q)) x x (subst (λ i. Carries shape p (pos i) x x) (mul_comm q (suc n)) ahead)

-- ---- where the power by M is the identity

-- steps ahead, with multiples of M, in place of any steps
natural_steps : (M : ℕ) → 1 ≤ M → (k : ℤ) → (i : ℕ) × (e : ℕ) × (pos (e * M) +ℤ k ≡ pos i)
natural_steps M positive (pos i) = (i, 0, ap pos (omega arith))
natural_steps M positive (negsuc n) = (suc n * M - suc n, suc n, omega (arith, ints, mul-le-mul_left (suc n) positive))

module _ {shape : Shape} {p : List Row} {M : ℕ} (pair : IsPair shape p) (positive : 1 ≤ M) (fixes : FixesRoots shape p M) where
  -- a multiple of M steps leads each word back
  rounds : (e : ℕ) (u : Word) → IsWordOf shape u → Carries shape p (pos (e * M)) u u
  rounds e u word = carries_round shape p pair M u (fixed_word shape p M fixes u word) e

  -- each power by a multiple of M is the identity
  pub multiple_fixes : (k : ℕ) → M ∣ k → FixesRoots shape p k
  multiple_fixes k h root low high = subst (λ i. Carries shape p (pos i) (root_word root) (root_word root)) (div-mul_cancel M h) (rounds (k / M) (root_word root) (root_is_word shape root low high))

  -- what some steps lead to, less than M steps ahead lead to
  pub carries_below : (k : ℤ) (x y : Word) → Carries shape p k x y → (l : ℕ) × (l < M) × Carries shape p (pos l) x y
  carries_below k x y c =
      let n = natural_steps M positive k in
      let up : Carries shape p (pos n.0) x y = carries_sum shape p pair (pos (n.1 * M)) k (pos n.0) n.2 x x y (rounds n.1 x c.word) c in
      (n.0 % M, mod-lt n.0 positive, carries_rest shape p pair (pos (n.0 / M * M)) (pos (n.0 % M)) (pos n.0) (ap pos (div-add-mod' n.0 M)) x x y (rounds (n.0 / M) x c.word) up)

  -- a power is one by a multiple of M more
  power_more : (s : List Row) (k l : ℤ) (e : ℕ) → pos (e * M) +ℤ k ≡ l → IsPower shape p k s → IsPower shape p l s
  power_more s k l e sum power = record {
    pair = power.pair;
    stepped = λ u v w word steps moved.
        let there : Carries shape p k u v = carries_rest shape p pair (pos (e * M)) k l sum u u v (rounds e u word) (carries_from_steps shape p pair l u v word steps) in
        carries_single shape s power.pair (pos 1) u v w ((carries_by_power shape p s k u v pair power).0 there) (moves_carries shape s u w power.pair word moved);
  }

  -- each power is one by a number from 0 on
  pub power_ahead : (s : List Row) (k : ℤ) → IsPower shape p k s → (i : ℕ) × IsPower shape p (pos i) s
  power_ahead s k power = let n = natural_steps M positive k in (n.0, power_more s k (pos n.0) n.1 n.2 power)

  -- of two powers the second is a power of the first, where a multiple of the one exponent is the other and a multiple of M
  pub power_of_power : (s t : List Row) (i j c e : ℕ) → IsPower shape p (pos i) s → IsPower shape p (pos j) t → c * i ≡ j + e * M → IsPower shape s (pos c) t
  power_of_power s t i j c e first second is =
      let r = power_exists shape s (pos c) first.pair in
      let own : IsPower shape p (pos (c * i)) r.0 = power_mul shape p s r.0 (pos i) (pos c) pair first r.1 in
      let other : IsPower shape p (pos (c * i)) t = power_more t (pos j) (pos (c * i)) e (ap pos (turn is)) second in
      power_alike shape s r.0 t (pos c) first.pair r.1 second.pair (power_once shape p t r.0 (pos (c * i)) pair other own)
    where
      turn : c * i ≡ j + e * M → e * M + j ≡ c * i
      turn is = omega (arith, is)

-- the order divides the exponent of each power that is the identity
pub order_divides : {shape : Shape} {p : List Row} {M : ℕ} → IsPair shape p → IsOrder shape p M → (k : ℕ) → FixesRoots shape p k → M ∣ k
order_divides {shape} {p} {M} pair order k fixes = elim (cases_eq (k % M) 0) [
  | inl none ↦ dvd_of_mod-eq-zero M none
  | inr some ↦ absurd (order.least (k % M) (omega (arith, some)) (mod-lt k order.positive) (λ root low high.
      let u = root_word root in
      carries_rest shape p pair (pos (k / M * M)) (pos (k % M)) (pos k) (ap pos (div-add-mod' k M)) u u u (rounds pair order.positive order.holds (k / M) u (root_is_word shape root low high)) (fixes root low high)))
]
