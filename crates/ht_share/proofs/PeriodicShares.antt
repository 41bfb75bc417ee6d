-- Words under cycle words that share an orbit: one round tells. X is a semi-normal basis of p.
use Rattle.std.proofs.Common.{◌≡◌, ◌≢◌, ℕ, suc, ◌-◌, ◌*◌, ◌/◌, ◌%◌, ◌≤◌, ◌<◌, ◌^◌, inl, inr, List, Some, None, refl, subst, arith, ℤ, pos, negsuc, ◌+ℤ◌}
use Rattle.std.proofs.Math.Nat.{mul-le-mul_left, mod-lt}
use Rattle.std.proofs.lemmas.Bool.{cases_lt}
use Rattle.std.proofs.lemmas.Int.{ints}
use Rattle.ht_word.specs.Words.{◌·◌, IsWordOf}
use Rattle.ht_word.specs.declared.shape.Shape.{Shape}
use Rattle.ht_word.specs.declared.word.Word.{Word}
use Rattle.ht_pair.specs.Actions.{IsCanonical, Moves}
use Rattle.ht_pair.specs.Pairs.{IsPair}
use Rattle.ht_pair.specs.SemiNormal.{IsSemiNormal}
use Rattle.ht_pair.specs.Steps.{Carries}
use Rattle.ht_pair.specs.declared.row.Row.{Row}
use Rattle.ht_pair.proofs.CarriesLaws.{carries_single, carries_word, carries_rest, carries_sum}
use Rattle.ht_quasi.proofs.StepLaws.{moved_carries, carried_moves}
use Rattle.ht_types.specs.CycleWords.{IsUnderCycle}
use Rattle.ht_types.specs.Shares.{IsShare}
use Rattle.ht_types.proofs.PeriodicLaws.{carries_round, under_cycle_moved, under_cycle_home}

-- a number of steps below m that leads to a word
record IsMet (shape : Shape) (p : List Row) (u v : Word) (m : ℕ) : Type 0 where
  steps : ℕ
  within : steps < m
  carries : Carries shape p (pos steps) u v

met_ahead : (shape : Shape) (p : List Row) → IsPair shape p → (u v : Word) (m : ℕ) → 1 ≤ m → Carries shape p (pos m) u u → (k : ℕ) → Carries shape p (pos k) u v → IsMet shape p u v m
met_ahead shape p pair u v m positive round k c = record {
  steps = k % m;
  within = mod-lt k positive;
  carries = carries_rest shape p pair (pos (k / m * m)) (pos (k % m)) (pos k) (sum k m positive) u u v (carries_round shape p pair m u round (k / m)) c;
}
  where
    sum : (k m : ℕ) → 1 ≤ m → pos (k / m * m) +ℤ pos (k % m) ≡ pos k
    sum k m l = omega (arith, ints)

-- what any power leads to from u, a power from 0 to m - 1 does, where m steps lead back to u
met : (shape : Shape) (p : List Row) → IsPair shape p → (u v : Word) (m : ℕ) → 1 ≤ m → Carries shape p (pos m) u u → (k : ℤ) → Carries shape p k u v → IsMet shape p u v m
met shape p pair u v m positive round (pos k) c = met_ahead shape p pair u v m positive round k c
met shape p pair u v m positive round (negsuc k) c =
    met_ahead shape p pair u v m positive round (suc k * m - suc k)
    (carries_sum shape p pair (pos (suc k * m)) (negsuc k) (pos (suc k * m - suc k)) (sum (suc k * m) k (mul-le-mul_left (suc k) positive)) u u v (carries_round shape p pair m u round (suc k)) c)
  where
    sum : (n k : ℕ) → suc k * 1 ≤ n → pos n +ℤ negsuc k ≡ pos (n - suc k)
    sum n k l = omega (arith, ints)

-- ---- going round

-- so many steps lead from u to the word, and no fewer lead to v
pub record IsBeforeOnCycle (shape : Shape) (p : List Row) (u v word : Word) (steps : ℕ) : Type 0 where
  pub carries : Carries shape p (pos steps) u word
  pub before : (j : ℕ) → j < steps → ¬ Carries shape p (pos j) u v

pub round_moves : (shape : Shape) (p : List Row) → IsCanonical shape p → (X : List Word) → IsSemiNormal shape p X → (u v word : Word) (m steps : ℕ) → IsWordOf shape u → IsUnderCycle shape p X u m → IsBeforeOnCycle shape p u v word steps → (next : Word) × Moves p word next
round_moves shape p canonical X semi u v word m steps hu c on =
    let far = under_cycle_moved shape p canonical.pair X semi (pos (suc steps)) u m hu c in
    let next = far.0.word · c.under.rest in
    (next, carried_moves shape p canonical word next (carries_rest shape p canonical.pair (pos steps) (pos 1) (pos (suc steps)) (omega (arith, ints)) u word next on.carries far.1))

pub round_on : (shape : Shape) (p : List Row) → IsCanonical shape p → (u v word next : Word) (steps : ℕ) → IsBeforeOnCycle shape p u v word steps → word ≢ v → Moves p word next → IsBeforeOnCycle shape p u v next (suc steps)
round_on shape p canonical u v word next steps on other moves = record {
  carries = carries_sum shape p canonical.pair (pos steps) (pos 1) (pos (suc steps)) (omega (arith, ints)) u word next on.carries (moved_carries shape p canonical word next (carries_word shape p canonical.pair (pos steps) u word on.carries) moves);
  before = λ j l c. elim (cases_lt j steps) [
    | inl less ↦ on.before j less c
    | inr last ↦ other (carries_single shape p canonical.pair (pos steps) u word v on.carries (subst (λ i. Carries shape p (pos i) u v) (let e : j ≡ steps = omega arith in e) c))
  ];
}

-- v is met
pub round_meets : (shape : Shape) (p : List Row) (X : List Word) (u v word : Word) (steps : ℕ) → steps < 2 ^ 64 → IsBeforeOnCycle shape p u v word steps → word ≡ v → IsShare shape p X u v (Some (pos steps))
round_meets shape p X u v word steps few on e = (
  subst (Carries shape p (pos steps) u) e on.carries,
  bound steps few,
  (λ m under. record {
    steps = steps;
    is = refl;
    least = λ j c. elim (cases_lt j steps) [
      | inl less ↦ absurd (on.before j less c)
      | inr other ↦ other
    ];
  }),
)
  where
    bound : (n : ℕ) → n < 2 ^ 64 → n < 2 ^ 122
    bound n l = omega arith

-- v is not met in a whole round
pub round_ends : (shape : Shape) (p : List Row) → IsPair shape p → (X : List Word) (u v word : Word) (m : ℕ) → IsWordOf shape u → IsUnderCycle shape p X u m → IsBeforeOnCycle shape p u v word m → IsShare shape p X u v None
round_ends shape p pair X u v word m hu c on = λ k carries.
    let s = met shape p pair u v m c.cycle.positive (under_cycle_home shape p X u m hu c) k carries in
    on.before s.steps s.within s.carries
