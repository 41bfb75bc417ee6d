-- The powers of an element of finite order along its cycles: those of one prime order are conjugate, and a prime that divides the
-- order divides the length of a cycle.
use Rattle.std.proofs.Common.{◌≡◌, ℕ, ◌+◌, ◌*◌, ◌/◌, ◌≤◌, ◌⊎◌, inl, inr, List, sym, ap, ◌∙◌, subst, arith, Contains, ℤ, pos, ◌*ℤ◌}
use Rattle.std.specs.Int.{◌∣◌}
use Rattle.std.proofs.lemmas.Nat.Gcd.{le_of_dvd}
use Rattle.std.proofs.Math.Nat.{div-mul_cancel, dvd-mul_right}
use Rattle.ht_word.specs.declared.shape.Shape.{Shape}
use Rattle.ht_word.specs.declared.word.Word.{Word}
use Rattle.ht_word.proofs.Deciding.{same_word_or_not}
use Rattle.ht_pair.specs.Conjugacy.{AreConjugate}
use Rattle.ht_pair.specs.Kinds.{IsCycle, IsCycleWord}
use Rattle.ht_pair.specs.Orders.{FixesRoots, IsOrder}
use Rattle.ht_pair.specs.Pairs.{IsPair}
use Rattle.ht_pair.specs.Products.{IsPower}
use Rattle.ht_pair.specs.Steps.{Carries}
use Rattle.ht_pair.specs.declared.row.Row.{Row}
use Rattle.ht_pair.proofs.BasisLaws.{basis_word}
use Rattle.ht_pair.proofs.CarriesLaws.{carries_single}
use Rattle.ht_pair.proofs.IdentityLaws.{fixed_word}
use Rattle.ht_pair.proofs.PowerLaws.{first_power}
use Rattle.ht_pair.proofs.PowerProducts.{power_mul}
use Rattle.ht_types.proofs.PeriodicLaws.{returns_cycle, cycle_around, length_divides, multiple_carries}
use Rattle.ht_types.proofs.TurnLaws.{HasSemiNormal}
use Rattle.ht_laws.proofs.FiniteOrderLaws.{fixes_over}
use Rattle.ht_laws.proofs.PartPowerLaws.{proper_part}
use Rattle.ht_power_laws.proofs.CycleConjugators.{Permutes, Follows, follows_conjugate}
use Rattle.ht_power_laws.proofs.OrderPowers.{power_fixes, multiple_returns, multiple_fixes, carries_below, power_of_power}
use Rattle.ht_power_laws.proofs.PowerCarries.{power_carries}
use Rattle.ht_power_laws.proofs.PrimeNumbers.{IsPrime, HasPrimePart, inverse_exists, prime_in_divisor}
use Rattle.ht_power_laws.proofs.Searches.{each_or_some, some_below}

-- a power follows the element
power_follows : {shape : Shape} {f g : List Row} {q : ℕ} → IsPair shape f → IsPower shape f (pos q) g → Follows shape f g
power_follows {q = q} pair power = record {
  returns = λ k x c. (power_carries pair power k x x).1 (multiple_returns pair k q x c);
  reached = λ x y (k, c). (k *ℤ pos q, (power_carries pair power k x y).0 c);
}

module _ {shape : Shape} {p : List Row} {X : List Word} {M : ℕ} (h : HasSemiNormal shape p X) (order : IsOrder shape p M) where
  -- each word of the basis is a cycle word
  all_cycles : (x : Word) → Contains X x → IsCycleWord shape p x
  all_cycles x c = returns_cycle shape p h.pair X h.semi M x order.positive c (fixed_word shape p M order.holds x (basis_word shape X h.semi.basis x c))

  -- so the powers permute the basis
  power_moved : {i : ℕ} {s : List Row} → IsPower shape p (pos i) s → (k : ℤ) (x : Word) → Contains X x → (y : Word) × Contains X y × Carries shape s k x y
  power_moved {i} power k x c =
      let cycle = all_cycles x c in
      let on = cycle_around shape p h.pair X h.semi (k *ℤ pos i) x cycle.0 c cycle.1 in
      (on.word, on.listed, (power_carries h.pair power k x on.word).1 on.carries)

  -- whether they lead one word to another is decided
  power_decided : {i : ℕ} {s : List Row} → IsPower shape p (pos i) s → (k : ℤ) (x y : Word) → Contains X x → Carries shape s k x y ⊎ ¬ Carries shape s k x y
  power_decided {s = s} power k x y c =
      let to = power_moved power k x c in
      elim (same_word_or_not to.0 y) [
        | inl e ↦ inl (subst (Carries shape s k x) e to.2)
        | inr n ↦ inr (λ there. n (carries_single shape s power.pair k x to.0 y to.2 there))
      ]

  power_permutes : {i : ℕ} {s : List Row} → IsPower shape p (pos i) s → Permutes shape s X
  power_permutes {i} {s} power = record {
    pair = power.pair;
    moved = power_moved power;
    decided = λ x y c. elim (some_below (λ l. Carries shape s (pos l) x y) (λ l. power_decided power (pos l) x y c) M) [
      | inl found ↦ inl (pos found.0, found.2)
      | inr none ↦ inr (λ (k, there). let l = carries_below power.pair order.positive fixes k x y there in none l.0 l.1 l.2)
    ];
  }
    where
      fixes : FixesRoots shape s M
      fixes = (power_fixes h.pair power M).1 (multiple_fixes h.pair order.positive order.holds (M * i) (dvd-mul_right M i))

  -- a power x of prime order d, that by q of the power s, is conjugate to the power by the order over d
  pub prime_conjugate : {i q d : ℕ} {s x f : List Row} → IsPrime d → HasPrimePart d M (q * i) → IsPower shape p (pos i) s → IsPower shape s (pos q) x → IsPower shape p (pos (M / d)) f → AreConjugate shape f x
  prime_conjugate {i} {q} {d} {s} {x} {f} prime part first second other =
      let power : IsPower shape p (pos (q * i)) x = power_mul shape p s x (pos i) (pos q) h.pair first second in
      let inverse = inverse_exists d part.times prime part.prime_to in
      let ahead = power_of_power h.pair order.positive order.holds f x (M / d) (q * i) part.times 0 other power (sym part.is ∙ omega arith) in
      let back = power_of_power h.pair order.positive order.holds x f (q * i) (M / d) inverse.times inverse.over power other
      (ap (λ (k : ℕ). inverse.times * k) part.is ∙ turn inverse.times inverse.over part.times (M / d) inverse.is ∙ ap (λ (k : ℕ). M / d + inverse.over * k) (div-mul_cancel d part.divides)) in
      follows_conjugate h.semi.basis (power_permutes other) (power_permutes power) (power_follows other.pair ahead) (power_follows power.pair back)
    where
      turn : (t e k m : ℕ) → t * k ≡ 1 + e * d → t * (k * m) ≡ m + e * (m * d)
      turn t e k m is = regroup t k m ∙ ap (λ (n : ℕ). n * m) is ∙ spread e m
        where
          regroup : (t k m : ℕ) → t * (k * m) ≡ (t * k) * m
          regroup t k m = omega arith

          spread : (e m : ℕ) → (1 + e * d) * m ≡ m + e * (m * d)
          spread e m = omega arith

  -- a prime that divides the order divides the length of some cycle
  pub long_cycle : {d : ℕ} → IsPrime d → d ∣ M → (x : Word) × (m : ℕ) × Contains X x × IsCycle shape p x m × (d ≤ m)
  long_cycle {d} prime divides =
      let part = proper_part M d order.positive prime.not_one divides in
      elim (each_or_some (λ x. Carries shape p (pos (M / d)) x x) (λ x. ¬ Carries shape p (pos (M / d)) x x) X (λ x c. power_decided (first_power shape p h.pair) (pos (M / d)) x x c)) [
        | inl all ↦ absurd (order.least (M / d) part.0 part.1 (fixes_over shape p h.pair X h.semi.basis (M / d) (λ x c n. n (all x c))))
        | inr (x, c, n) ↦ by x c n (all_cycles x c)
      ]
    where
      by : (x : Word) → Contains X x → ¬ Carries shape p (pos (M / d)) x x → IsCycleWord shape p x → (y : Word) × (m : ℕ) × Contains X y × IsCycle shape p y m × (d ≤ m)
      by x c n (m, cycle) =
          let home = fixed_word shape p M order.holds x (basis_word shape X h.semi.basis x c) in
          (x, m, c, cycle, le_of_dvd cycle.positive (prime_in_divisor d M m prime divides (length_divides shape p h.pair x m M cycle home) (λ k. n (multiple_carries shape p h.pair x m (M / d) cycle k))))
